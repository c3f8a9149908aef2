-- Looking an instance up.
use Rattle.std.proofs.Common.{◌≡◌, ℕ, List, ◌++◌, Option, Some, sym, ap, ◌∙◌}
use Rattle.std.specs.Option.{option_map}
use Rattle.fm_base.specs.declared.ids.SymId.{SymId}
use Rattle.fm_base.specs.declared.ids.TermId.{TermId}
use Rattle.fm_bank.specs.Terms.{Term, application, find, numbers}
use Rattle.fm_bank.specs.Instances.{find_applied}

-- with more in front, where it is there
abbrev pub behind : {X : Type 0} → List X → Option (List X) → Option (List X)
behind xs o = option_map (λ ys. xs ++ ys) o

pub application_found : (terms : List Term) (f : SymId) (o : Option (List ℕ)) (items seen : List TermId) (answer : Option ℕ) → o ≡ Some (numbers items) → seen ≡ items → answer ≡ find terms (application f seen) → find_applied terms f.0 o ≡ answer
application_found terms f o items seen answer some same is =
    ap (find_applied terms f.0) some ∙ sym (is ∙ ap (λ (xs : List TermId). find terms (application f xs)) same)
