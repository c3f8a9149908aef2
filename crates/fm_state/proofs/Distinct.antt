-- Different literals on known atoms have different numbers.
use Rattle.std.proofs.Common.{◌≡◌, ℕ, ◌+◌, ◌<◌, Bool, true, List, [], ◌∷◌, drop, length, map, Some, inl, inr, refl, sym, ap, subst, ◌∙◌}
use Rattle.std.specs.Prelude.{get_or, slice_get}
use Rattle.std.specs.List.{list_all}
use Rattle.std.proofs.lemmas.Bool.{and_parts}
use Rattle.std.proofs.lemmas.List.{drop_more}
use Rattle.fm_base.specs.Resolution.{AreDistinct, Has}
use Rattle.fm_base.specs.declared.ids.Lit.{Lit}
use Rattle.fm_base.proofs.Resolution.{mapped_has}
use Rattle.fm_bank.specs.Interning.{atom_number, lit_in, with_atoms}
use Rattle.fm_bank.specs.declared.atom.Atom.{Atom}
use Rattle.fm_bank.specs.declared.literal.Literal.{Literal}
use Rattle.fm_steps.proofs.Numbers.{all_there, get_place}

pub distinct_map : {X Y : Type 0} (f : X → Y) (xs : List X) → ((x y : X) → Has xs x → Has xs y → f x ≡ f y → x ≡ y) → AreDistinct xs → AreDistinct (map f xs)
distinct_map f [] one d = tt
distinct_map f (x ∷ xs) one d = (
  λ h. (let w = mapped_has f xs (f x) h in d.0 (subst (Has xs) (one w.lit x (inr w.has) (inl refl) w.is) w.has)),
  distinct_map f xs (λ y z p q e. one y z (inr p) (inr q) e) d.1,
)

pub numbers_distinct : (atoms : List Atom) (ls : List Literal) → AreDistinct ls → AreDistinct (map (lit_in (with_atoms atoms ls)) ls)
numbers_distinct atoms ls d =
    let all = with_atoms atoms ls in
    distinct_map (lit_in all) ls (λ k l p q e.
    let number : atom_number all k.atom ≡ atom_number all l.atom = ap (λ (x : Lit). x.atom.0) e in
    let sign : k.positive ≡ l.positive = ap (λ (x : Lit). x.positive) e in
    let here = get_place all k.atom (all_there ls atoms k p) in
    let there = get_place all l.atom (all_there ls atoms l q) in
    let both : Some k.atom ≡ Some l.atom = sym here ∙ ap (slice_get all) number ∙ there in
    let atom : k.atom ≡ l.atom = cc both in
    λ i. record { positive = sign i; atom = atom i }) d

-- what holds of all that is left holds of all but the first of it
pub all_rest : {X : Type 0} (p : X → Bool) (xs : List X) (i : ℕ) (d : X) → i < length xs → list_all p (drop i xs) ≡ true → list_all p (drop (i + 1) xs) ≡ true
all_rest p xs i d lt h = (and_parts (p (get_or xs i d)) (list_all p (drop (i + 1) xs)) (sym (ap (list_all p) (drop_more xs i d lt)) ∙ h)).1
