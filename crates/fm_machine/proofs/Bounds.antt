-- Bounds on the size of a sort by the trail.
use Rattle.std.proofs.Common.{◌≡◌, ℕ, zero, suc, ◌+◌, ◌<◌, min, Bool, true, false, if◌then◌else◌, List, [], ◌∷◌, ◌++◌, drop, length, Option, Some, None, refl, sym, ap, ◌∙◌, arith}
use Rattle.std.specs.Prelude.{slice_get}
use Rattle.std.specs.Option.{option_and_then}
use Rattle.std.specs.List.{cons_option, flat_map}
use Rattle.fm_bank.specs.Interning.{IsHeld, find_atom}
use Rattle.fm_bank.specs.declared.atom.Atom.{Atom}
use Rattle.fm_bank.proofs.Once.{one_atom}
use Rattle.fm_steps.specs.Sizes.{holds, least, least_with, number_in}
use Rattle.fm_steps.specs.State.{State, value_by}
use Rattle.fm_steps.proofs.InRow.{has_known}
use Rattle.fm_steps.proofs.Lists.{Has-get}
use Rattle.fm_steps.proofs.Numbers.{get_place, known_any}
use Rattle.fm_steps.proofs.Offered.{found_number}
use Rattle.fm_trail.specs.Trail.{is_value}
use Rattle.fm_machine.specs.Settling.{both}

-- the atom at a place has its number
pub number_there : (s : State) (n : ℕ) (a : Atom) → IsHeld s.held.sig s.held.terms s.held.atoms → slice_get s.held.atoms n ≡ Some a → find_atom s.held.atoms a ≡ Some n
number_there s n a held at =
    let has = Has-get s.held.atoms n a at in
    let place = get_place s.held.atoms a (known_any s.held.atoms a (has_known s.held.atoms a has)) in
    found_number s.held.atoms a has ∙ ap Some (one_atom s.held.sig s.held.terms s.held.atoms held.atoms_good _ n a place at)

pub holds_at : (s : State) (n : ℕ) (a : Atom) (b : Bool) → IsHeld s.held.sig s.held.terms s.held.atoms → slice_get s.held.atoms n ≡ Some a → b ≡ is_value (value_by s.trail.entries n) true → b ≡ holds s true a
holds_at s n a b held at e = e ∙ sym (ap (λ (o : Option ℕ). is_value (option_and_then (value_by s.trail.entries) o) true) (number_there s n a held at))

-- the smaller of two numbers, from left to right
both_none : (a : Option ℕ) → both a None ≡ a
both_none None = refl
both_none (Some a) = refl

both_least : (f : Option ℕ) (o : Option ℕ) (ns : List ℕ) → both (both f o) (least ns) ≡ both f (least (cons_option o ns))
both_least f None ns = ap (λ (g : Option ℕ). both g (least ns)) (both_none f)
both_least None (Some n) ns = by_rest n (least ns)
  where
    by_rest : (n : ℕ) (r : Option ℕ) → both (Some n) r ≡ Some (least_with n r)
    by_rest n None = refl
    by_rest n (Some m) = refl
both_least (Some f) (Some n) ns = by_rest f n (least ns)
  where
    by_rest : (f n : ℕ) (r : Option ℕ) → both (Some (min f n)) r ≡ Some (min f (least_with n r))
    by_rest f n None = refl
    by_rest f n (Some m) = (let e : min (min f n) m ≡ min f (min n m) = omega arith in ap Some e)

-- what an atom gives is put before the rest
abbrev pub given : State → ℕ → Atom → List ℕ
given s u a = if holds s true a then number_in u a else []

abbrev pub numbers_from : State → ℕ → List Atom → List ℕ
numbers_from s u atoms = flat_map (given s u) atoms

drop_at : (atoms : List Atom) (i : ℕ) (a : Atom) → slice_get atoms i ≡ Some a → drop i atoms ≡ a ∷ drop (i + 1) atoms
drop_at [] i a e = cc e
drop_at (x ∷ xs) zero a e = (let same : x ≡ a = cc e in ap (λ (y : Atom). y ∷ xs) same)
drop_at (x ∷ xs) (suc i) a e = (let next : suc i + 1 ≡ suc (i + 1) = omega arith in drop_at xs i a e ∙ ap (λ n. a ∷ drop n (x ∷ xs)) (sym next))

option_list : (o : Option ℕ) (ns : List ℕ) → cons_option o [] ++ ns ≡ cons_option o ns
option_list None ns = refl
option_list (Some n) ns = refl

pub least_next : (s : State) (u i : ℕ) (a : Atom) (f o : Option ℕ) → slice_get s.held.atoms i ≡ Some a → cons_option o [] ≡ given s u a
    → both (both f o) (least (numbers_from s u (drop (i + 1) s.held.atoms))) ≡ both f (least (numbers_from s u (drop i s.held.atoms)))
least_next s u i a f o at is =
    let rest = numbers_from s u (drop (i + 1) s.held.atoms) in
    both_least f o rest ∙ ap (λ (ns : List ℕ). both f (least ns)) (sym (option_list o rest) ∙ ap (λ (ns : List ℕ). ns ++ rest) is ∙ sym (ap (numbers_from s u) (drop_at s.held.atoms i a at)))

pub value_is : (v : Bool) (o : Option Bool) → o ≡ Some v → v ≡ is_value o true
value_is true o e = sym (ap (λ (p : Option Bool). is_value p true) e)
value_is false o e = sym (ap (λ (p : Option Bool). is_value p true) e)

pub none_is : (o : Option Bool) → o ≡ None → false ≡ is_value o true
none_is o e = sym (ap (λ (p : Option Bool). is_value p true) e)

pub atom_there : (atoms : List Atom) (n : ℕ) → n < length atoms → (a : Atom) × (slice_get atoms n ≡ Some a)
atom_there [] n lt = absurd (omega (arith, lt))
atom_there (a ∷ as') zero lt = (a, refl)
atom_there (a ∷ as') (suc n) lt = atom_there as' n (omega (arith, lt))
