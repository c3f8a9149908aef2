-- What is kept of a tuple.
use Rattle.std.proofs.Common.{◌≡◌, ℕ, zero, suc, ◌<◌, Bool, true, false, cond, List, [], ◌∷◌, ap, refl, ◌∙◌}
use Rattle.std.specs.Prelude.{slice_index}
use Rattle.fm_base.specs.Interpretations.{Reading}
use Rattle.fm_base.specs.Models.{IsElements}
use Rattle.fm_base.specs.declared.ids.SortId.{SortId}
use Rattle.fm_nnf.specs.Places.{Occurs, kept, later, place}

index_step : (b : Bool) (x : ℕ) (ks : List ℕ) (n : ℕ) → slice_index (cond b (x ∷ ks) ks) (cond b (suc n) n) ≡ slice_index ks n
index_step true x ks n = refl
index_step false x ks n = refl

pub kept_index : (p : Occurs) (env : List ℕ) (v : ℕ) → p v ≡ true → slice_index (kept p env) (place p v) ≡ slice_index env v
unfolding place
kept_index p [] v h = refl
kept_index p (x ∷ xs) zero h = ap (λ (b : Bool). slice_index (cond b (x ∷ kept (later p) xs) (kept (later p) xs)) zero) h
kept_index p (x ∷ xs) (suc v) h = index_step (p zero) x (kept (later p) xs) (place (later p) v) ∙ kept_index (later p) xs v h

kept_elements_step : (b : Bool) (m : Reading) (s : SortId) (ss : List SortId) (x : ℕ) (xs : List ℕ) → x < m.size s.0 → IsElements m ss xs → IsElements m (cond b (s ∷ ss) ss) (cond b (x ∷ xs) xs)
kept_elements_step true m s ss x xs lt h = (lt, h)
kept_elements_step false m s ss x xs lt h = h

pub kept_elements : (m : Reading) (p : Occurs) (scope : List SortId) (env : List ℕ) → IsElements m scope env → IsElements m (kept p scope) (kept p env)
kept_elements m p [] [] h = tt
kept_elements m p [] (x ∷ xs) h = absurd h
kept_elements m p (s ∷ ss) [] h = absurd h
kept_elements m p (s ∷ ss) (x ∷ xs) h = kept_elements_step (p zero) m s (kept (later p) ss) x (kept (later p) xs) h.0 (kept_elements m (later p) ss xs h.1)
