-- Tuples of elements, and the values of variables at them.
use Rattle.std.proofs.Common.{◌≡◌, ℕ, zero, suc, ◌+◌, ◌<◌, ◌≤◌, true, List, [], ◌∷◌, ◌++◌, length, map, ap, refl, sym, subst, ◌∙◌, arith, length-append, append_assoc}
use Rattle.std.specs.Prelude.{slice_index, nat_lt}
use Rattle.std.proofs.lemmas.Bool.{and_parts, and_from, ltb-true, lt-ltb, false≢true}
use Rattle.fm_base.specs.Interpretations.{Reading, is_tuple}
use Rattle.fm_base.specs.Models.{IsElements}
use Rattle.fm_base.specs.Normal.{value}
use Rattle.fm_base.specs.declared.ids.SortId.{SortId}
use Rattle.fm_base.specs.declared.signature.Ty.{Ty}
use Rattle.fm_base.specs.declared.formula.Pterm.{Pterm}
use Rattle.fm_base.proofs.NormalTerms.{value_of_var}
use Rattle.fm_nnf.specs.NormalForm.{all_variables}

abbrev types : List SortId → List Ty
types scope = map (λ (s : SortId). Ty.Of s) scope

pub elements_length : (m : Reading) (scope : List SortId) (env : List ℕ) → IsElements m scope env → length env ≡ length scope
elements_length m [] [] h = refl
elements_length m [] (x ∷ xs) h = absurd h
elements_length m (s ∷ ss) [] h = absurd h
elements_length m (s ∷ ss) (x ∷ xs) h = ap suc (elements_length m ss xs h.1)

pub elements_append : (m : Reading) (scope vars : List SortId) (env xs : List ℕ) → IsElements m scope env → IsElements m vars xs → IsElements m (scope ++ vars) (env ++ xs)
elements_append m [] vars [] xs h t = t
elements_append m [] vars (e ∷ es) xs h t = absurd h
elements_append m (s ∷ ss) vars [] xs h t = absurd h
elements_append m (s ∷ ss) vars (e ∷ es) xs h t = (h.0, elements_append m ss vars es xs h.1 t)

pub index_front : (env xs : List ℕ) (v : ℕ) → v < length env → slice_index (env ++ xs) v ≡ slice_index env v
index_front [] xs v lt = absurd (omega arith)
index_front (e ∷ es) xs zero lt = refl
index_front (e ∷ es) xs (suc v) lt = index_front es xs v (omega arith)

pub tuple_elements : (m : Reading) (vars : List SortId) (xs : List ℕ) → is_tuple m (types vars) xs ≡ true → IsElements m vars xs
tuple_elements m [] [] h = tt
tuple_elements m [] (x ∷ xs) h = absurd (false≢true h)
tuple_elements m (v ∷ vs) [] h = absurd (false≢true h)
tuple_elements m (v ∷ vs) (x ∷ xs) h = let p = and_parts (nat_lt x (m.size v.0)) (is_tuple m (types vs) xs) h in (ltb-true x (m.size v.0) p.0, tuple_elements m vs xs p.1)

pub elements_tuple : (m : Reading) (scope : List SortId) (env : List ℕ) → IsElements m scope env → is_tuple m (map (λ (s : SortId). Ty.Of s) scope) env ≡ true
elements_tuple m [] [] h = refl
elements_tuple m [] (x ∷ xs) h = absurd h
elements_tuple m (s ∷ ss) [] h = absurd h
elements_tuple m (s ∷ ss) (x ∷ xs) h = and_from (nat_lt x (m.size s.0)) (is_tuple m (map (λ (u : SortId). Ty.Of u) ss) xs) (lt-ltb x (m.size s.0) h.0) (elements_tuple m ss xs h.1)

index_seam : (pre : List ℕ) (x : ℕ) (xs : List ℕ) → slice_index (pre ++ x ∷ xs) (length pre) ≡ x
index_seam [] x xs = refl
index_seam (y ∷ pre) x xs = index_seam pre x xs

pub own_values : (m : Reading) (k : ℕ) (scope : List SortId) (pre env : List ℕ) → k ≡ length pre → length env ≡ length scope → map (λ (t : Pterm). value t m (pre ++ env)) (all_variables k scope) ≡ env
own_values m k [] pre [] e n = refl
own_values m k [] pre (x ∷ xs) e n = absurd (omega (arith, n))
own_values m k (s ∷ ss) pre [] e n = absurd (omega (arith, n))
own_values m k (s ∷ ss) pre (x ∷ xs) e n =
    let head = value_of_var k m (pre ++ x ∷ xs) ∙ ap (λ (i : ℕ). slice_index (pre ++ x ∷ xs) i) e ∙ index_seam pre x xs in
    let l = length-append pre (x ∷ []) in
    let rest = own_values m (suc k) ss (pre ++ x ∷ []) xs (omega (arith, l, e)) (omega (arith, n)) in
    let tail = subst (λ (ys : List ℕ). map (λ (t : Pterm). value t m ys) (all_variables (suc k) ss) ≡ xs) (append_assoc pre (x ∷ []) xs) rest in
    λ i. head i ∷ tail i

pub front_values : (m : Reading) (k : ℕ) (ss : List SortId) (env xs : List ℕ) → k + length ss ≤ length env → map (λ (t : Pterm). value t m (env ++ xs)) (all_variables k ss) ≡ map (λ (t : Pterm). value t m env) (all_variables k ss)
front_values m k [] env xs le = refl
front_values m k (s ∷ ss) env xs le =
    let head = value_of_var k m (env ++ xs) ∙ index_front env xs k (omega arith) ∙ sym (value_of_var k m env) in
    let tail = front_values m (suc k) ss env xs (omega arith) in
    λ i. head i ∷ tail i
