-- Marks by atom, clause by clause.
use Rattle.std.proofs.Common.{◌≡◌, ℕ, ◌+◌, ◌<◌, ◌==◌, ◌&&◌, Bool, true, false, not, List, [], ◌∷◌, ◌++◌, length, take, get_or, Some, refl, sym, ap, subst, ◌∙◌}
use Rattle.std.specs.Prelude.{◌||◌, slice_get}
use Rattle.std.specs.List.{list_any}
use Rattle.std.proofs.lemmas.List.{take_more}
use Rattle.std.proofs.lemmas.List.Folds.{list_any-append}
use Rattle.std.proofs.lemmas.Option.{get_or_from_slice_get, slice_get_within}
use Rattle.fm_base.specs.declared.ids.Lit.{Lit}
use Rattle.fm_trail.specs.declared.entry.Entry.{Entry}
use Rattle.fm_steps.specs.Rows.{is_satisfied}
use Rattle.fm_steps.specs.State.{Clause}
use Rattle.fm_state.specs.Groups.{AreMarked, AreMarkedWhere, has_atom}

or_of_or : (a b c : Bool) → ((a || b) || c) ≡ (a || (b || c))
or_of_or true b c = refl
or_of_or false b c = refl

pub marked_on : (c d : Clause) (old mid new : List Bool) → AreMarked c old mid → AreMarked d mid new → AreMarked (c ++ d) old new
marked_on c d old mid new h g =
    (g.0 ∙ h.0, λ a b at. g.1 a (b || has_atom a c) (h.1 a b at) ∙ ap Some (or_of_or b (has_atom a c) (has_atom a d) ∙ ap (λ x. b || x) (sym (list_any-append (λ (l : Lit). l.atom.0 == a) c d))))

pub marked_next : (xs : Clause) (i : ℕ) (d : Lit) (old mid new : List Bool) → i < length xs → AreMarked (take i xs) old mid → AreMarked (get_or xs i d ∷ []) mid new → AreMarked (take (i + 1) xs) old new
marked_next xs i d old mid new lt h g = subst (λ (c : Clause). AreMarked c old new) (sym (take_more xs i d lt)) (marked_on (take i xs) (get_or xs i d ∷ []) old mid new h g)

-- the marks of n atoms are those of atoms in these clauses without a true literal
abbrev pub AreSoFar : ℕ → List Entry → List Clause → List Bool → Type 0
AreSoFar n es cs marks = (length marks ≡ n) × ((a : ℕ) → a < n → slice_get marks a ≡ Some (list_any (λ (c : Clause). not (is_satisfied es c) && has_atom a c) cs))

or_nothing : (a : Bool) → (a || false) ≡ a
or_nothing true = refl
or_nothing false = refl

pub far_on : (n : ℕ) (es : List Entry) (cs : List Clause) (i : ℕ) (c : Clause) (old new : List Bool) → slice_get cs i ≡ Some c → AreSoFar n es (take i cs) old → AreMarkedWhere (not (is_satisfied es c)) c old new → AreSoFar n es (take (i + 1) cs) new
far_on n es cs i c old new at h g =
    let lt = slice_get_within cs i c at in
    let next : take (i + 1) cs ≡ take i cs ++ c ∷ [] = take_more cs i c lt ∙ ap (λ x. take i cs ++ x ∷ []) (get_or_from_slice_get cs i c c at) in (
      g.0 ∙ h.0,
      λ a less.
          let asks = λ (d : Clause). not (is_satisfied es d) && has_atom a d in
          g.1 a (list_any asks (take i cs)) (h.1 a less)
          ∙ ap Some (ap (λ x. list_any asks (take i cs) || x) (sym (or_nothing (asks c))) ∙ sym (list_any-append asks (take i cs) (c ∷ [])) ∙ ap (list_any asks) (sym next)),
    )
