-- Values of known atoms by their numbers, and of an atom that is false at level 0 by the place of its entry.
use Rattle.std.proofs.Common.{◌≡◌, ℕ, Bool, true, false, ◌==◌, ◌&&◌, not, inl, inr, List, Some, None, sym, ap, subst, ◌∙◌}
use Rattle.std.specs.Prelude.{option_and_then, slice_get}
use Rattle.std.proofs.lemmas.Bool.{and_parts, cases_Bool, eq-eqb, eqb-true}
use Rattle.fm_base.specs.Resolution.{Has}
use Rattle.fm_base.specs.declared.ids.AtomId.{AtomId}
use Rattle.fm_bank.specs.Interning.{StandOnce, find_atom, is_same_atom}
use Rattle.fm_bank.specs.declared.atom.Atom.{Atom}
use Rattle.fm_bank.proofs.Atoms.{is_same_atom-refl}
use Rattle.fm_rounds.proofs.Members.{in_any}
use Rattle.fm_trail.specs.Trail.{HasOneEntry, place_of}
use Rattle.fm_trail.specs.declared.entry.Entry.{Entry}
use Rattle.fm_trail.proofs.Places.{place_none, place_some}
use Rattle.fm_steps.specs.Sizes.{is_refuted, is_refuted_by, is_refuting}
use Rattle.fm_steps.specs.State.{State, atom_value, value_by}
use Rattle.fm_steps.proofs.Bounded.{found_at}
use Rattle.fm_steps.proofs.Fresh.{none_any}
use Rattle.fm_steps.proofs.Lists.{Has-get}
use Rattle.fm_steps.proofs.Numbers.{any_known, find_some}
use Rattle.fm_steps.proofs.Written.{has_place}

-- an atom is found at its one number
pub found_once : (atoms : List Atom) (a : Atom) (n : ℕ) → StandOnce atoms → slice_get atoms n ≡ Some a → find_atom atoms a ≡ Some n
found_once atoms a n once at =
    let some = find_some atoms a (any_known atoms a (in_any (is_same_atom a) atoms a (Has-get atoms n a at) (is_same_atom-refl a))) in
    some.1 ∙ ap Some (once some.0 n a (found_at atoms a some.0 some.1) at)

pub value_here : (s : State) (a : Atom) (n : ℕ) → StandOnce s.held.atoms → slice_get s.held.atoms n ≡ Some a → value_by s.trail.entries n ≡ atom_value s a
value_here s a n once at = sym (ap (option_and_then (value_by s.trail.entries)) (found_once s.held.atoms a n once at))

-- whether the one entry with an atom refutes it
abbrev negative_at_zero : Entry → Bool
negative_at_zero e = not e.lit.positive && e.level == 0

refuting_is : (n : ℕ) (e : Entry) → e.lit.atom.0 ≡ n → is_refuting n e ≡ negative_at_zero e
refuting_is n e same = ap (λ (b : Bool). (b && not e.lit.positive) && e.level == 0) (eq-eqb e.lit.atom.0 n same)

refuting_atom : (n : ℕ) (e : Entry) → is_refuting n e ≡ true → e.lit.atom.0 ≡ n
refuting_atom n e h = eqb-true e.lit.atom.0 n ((and_parts (e.lit.atom.0 == n) (not e.lit.positive) (and_parts (e.lit.atom.0 == n && not e.lit.positive) (e.level == 0) h).0).0)

refuted_by_one : (es : List Entry) (a : AtomId) (p : ℕ) (e x : Entry) → HasOneEntry es → slice_get es p ≡ Some e → e.lit.atom.0 ≡ a.0 → negative_at_zero e ≡ false → Has es x → is_refuting a.0 x ≡ false
refuted_by_one es a p e x once there same f has =
    let at = has_place es x has in
    elim (cases_Bool (is_refuting a.0 x)) [
      | inl t ↦
          let q : at.0 ≡ p = once at.0 p x e at.1 there (refuting_atom a.0 x t ∙ sym same) in
          let here : slice_get es p ≡ Some x = subst (λ n. slice_get es n ≡ Some x) q at.1 in
          let one : x ≡ e = cc (here, there) in
          ap (is_refuting a.0) one ∙ refuting_is a.0 e same ∙ f
      | inr g ↦ g
    ]

pub refuted_at : (es : List Entry) (a : AtomId) (p : ℕ) (e : Entry) → HasOneEntry es → place_of es a ≡ Some p → slice_get es p ≡ Some e → negative_at_zero e ≡ is_refuted_by es (Some a.0)
refuted_at es a p e once at there =
    let s = place_some es a p at in
    let stands : slice_get es p ≡ Some s.entry = s.there in
    let it : s.entry ≡ e = cc (stands, there) in
    let same : e.lit.atom.0 ≡ a.0 = subst (λ (f : Entry). f.lit.atom.0 ≡ a.0) it s.same in
    elim (cases_Bool (negative_at_zero e)) [
      | inl t ↦ t ∙ sym (in_any (is_refuting a.0) es e (Has-get es p e there) (refuting_is a.0 e same ∙ t))
      | inr f ↦ f ∙ sym (none_any (is_refuting a.0) es (λ x has. refuted_by_one es a p e x once there same f has))
    ]

refuting_not : (es : List Entry) (a : AtomId) (x : Entry) → place_of es a ≡ None → Has es x → is_refuting a.0 x ≡ false
refuting_not es a x none has =
    let at = has_place es x has in
    elim (cases_Bool (is_refuting a.0 x)) [
      | inl t ↦ absurd (place_none es a none at.0 x at.1 (refuting_atom a.0 x t))
      | inr g ↦ g
    ]

pub refuted_none : (es : List Entry) (a : AtomId) → place_of es a ≡ None → false ≡ is_refuted_by es (Some a.0)
refuted_none es a none = sym (none_any (is_refuting a.0) es (λ x has. refuting_not es a x none has))

-- the answer for an atom that is found
pub refuted_found : (s : State) (a : Atom) (n : ℕ) (b : Bool) → find_atom s.held.atoms a ≡ Some n → b ≡ is_refuted_by s.trail.entries (Some n) → b ≡ is_refuted s a
refuted_found s a n b at e = e ∙ sym (ap (is_refuted_by s.trail.entries) at)
