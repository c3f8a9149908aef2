-- One atom more towards the front, in the scan for the greatest false bound.
use Rattle.std.proofs.Common.{◌≡◌, ℕ, ◌+◌, false, cond, List, [], ◌++◌, drop, Some, sym, ap, subst, ◌∙◌}
use Rattle.std.specs.Prelude.{Option, slice_get}
use Rattle.std.specs.List.{flat_map}
use Rattle.fm_bank.specs.declared.atom.Atom.{Atom}
use Rattle.fm_steps.specs.Sizes.{greatest, holds, number_in}
use Rattle.fm_steps.specs.State.{State}
use Rattle.fm_state.specs.Groups.{listed}
use Rattle.fm_state.proofs.Filling.{drop_at}

abbrev pub false_in : State → ℕ → Atom → List ℕ
false_in s u a = cond (holds s false a) (number_in u a) []

pub greatest_on : (s : State) (u m left : ℕ) (a : Atom) (number old new : Option ℕ) → left ≡ m + 1 → slice_get s.held.atoms m ≡ Some a → listed number ≡ false_in s u a → ((ns : List ℕ) → old ≡ greatest ns → new ≡ greatest (listed number ++ ns)) → old ≡ greatest (flat_map (false_in s u) (drop left s.held.atoms)) → new ≡ greatest (flat_map (false_in s u) (drop m s.held.atoms))
greatest_on s u m left a number old new is at counts step h =
    let rest = flat_map (false_in s u) (drop (m + 1) s.held.atoms) in
    let h' : old ≡ greatest rest = subst (λ n. old ≡ greatest (flat_map (false_in s u) (drop n s.held.atoms))) is h in
    step rest h' ∙ ap (λ l. greatest (l ++ rest)) counts ∙ ap (λ l. greatest (flat_map (false_in s u) l)) (sym (drop_at s.held.atoms m a at))
