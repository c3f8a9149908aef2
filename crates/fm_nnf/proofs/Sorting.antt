-- What well sorted means part by part.
use Rattle.std.proofs.Common.{◌≡◌, ℕ, zero, suc, ◌<◌, ◌==◌, Bool, true, false, cond, List, [], ◌∷◌, ◌++◌, length, Option, Some, None, ap, refl, sym, subst, ◌∙◌, arith}
use Rattle.std.specs.Prelude.{slice_get, slice_index}
use Rattle.std.proofs.lemmas.Bool.{and_parts, and_from, eqb-true, eq-eqb, false≢true}
use Rattle.fm_base.specs.Interpretations.{Reading}
use Rattle.fm_base.specs.Models.{IsElements}
use Rattle.fm_base.specs.Truth.{Sort, is_bool, declared_sort, is_of_sort, are_arguments, have_one_sort, is_predicate_of, result_of}
use Rattle.fm_base.specs.declared.ids.SortId.{SortId}
use Rattle.fm_base.specs.declared.signature.Rank.{Rank}
use Rattle.fm_base.specs.declared.signature.Sig.{Sig}
use Rattle.fm_base.specs.declared.signature.Ty.{Ty}

pub get_below : {X : Type 0} (xs : List X) (i : ℕ) (x : X) → slice_get xs i ≡ Some x → i < length xs
get_below [] i x e = cc
get_below (y ∷ ys) zero x e = omega arith
get_below (y ∷ ys) (suc i) x e = let h = get_below ys i x e in omega (arith, h)

pub get_front : {X : Type 0} (xs ys : List X) (i : ℕ) (x : X) → slice_get xs i ≡ Some x → slice_get (xs ++ ys) i ≡ Some x
get_front [] ys i x e = cc
get_front (y ∷ xs) ys zero x e = e
get_front (y ∷ xs) ys (suc i) x e = get_front xs ys i x e

pub same_sort : (s u : SortId) → (s.0 == u.0) ≡ true → u ≡ s
same_sort s u e = ap (λ (n : ℕ). let v : SortId = record { 0 = n } in v) (sym (eqb-true s.0 u.0 e))

pub of_sort_parts : (o : Option SortId) (t : Ty) → is_of_sort o t ≡ true → (s : SortId) × (o ≡ Some s) × (t ≡ Ty.Of s)
of_sort_parts None t e = absurd (false≢true e)
of_sort_parts (Some s) Ty.Bool e = absurd (false≢true e)
of_sort_parts (Some s) (Ty.Of u) e = (s, refl, ap Ty.Of (same_sort s u e))

pub of_sort_from : (s : SortId) → is_of_sort (Some s) (Ty.Of s) ≡ true
of_sort_from s = eq-eqb s.0 s.0 refl

pub one_sort_parts : (x y : Option SortId) → have_one_sort x y ≡ true → (s : SortId) × (x ≡ Some s) × (y ≡ Some s)
one_sort_parts None y e = absurd (false≢true e)
one_sort_parts (Some s) None e = absurd (false≢true e)
one_sort_parts (Some s) (Some u) e = (s, refl, ap Some (sym (same_sort u s e)))

pub one_sort_from : (x y : Option SortId) (s : SortId) → x ≡ Some s → y ≡ Some s → have_one_sort x y ≡ true
one_sort_from x y s p q = (λ i. have_one_sort (p i) (q i)) ∙ of_sort_from s

pub when_some : {X : Type 0} (b : Bool) (o : Option X) (x : X) → cond b o None ≡ Some x → (b ≡ true) × (o ≡ Some x)
when_some true o x e = (refl, e)
when_some false o x e = cc

pub declared_is : (t : Ty) (s : SortId) → declared_sort t ≡ Some s → t ≡ Ty.Of s
declared_is Ty.Bool s e = cc
declared_is (Ty.Of u) s e = let same : u ≡ s = cc e in ap Ty.Of same

pub bool_is : (t : Ty) → is_bool t ≡ true → t ≡ Ty.Bool
bool_is Ty.Bool e = refl
bool_is (Ty.Of u) e = absurd (false≢true e)

pub predicate_parts : (ks : List Sort) (o : Option Rank) (sig : Sig) (scope : List SortId) → is_predicate_of ks o sig scope ≡ true → (rank : Rank) × (o ≡ Some rank) × (is_bool rank.result ≡ true) × (are_arguments ks rank.args sig scope ≡ true)
predicate_parts ks None sig scope e = absurd (false≢true e)
predicate_parts ks (Some rank) sig scope e = let p = and_parts (is_bool rank.result) (are_arguments ks rank.args sig scope) e in (rank, refl, p.0, p.1)

pub predicate_from : (ks : List Sort) (o : Option Rank) (sig : Sig) (scope : List SortId) (rank : Rank) → o ≡ Some rank → is_bool rank.result ≡ true → are_arguments ks rank.args sig scope ≡ true → is_predicate_of ks o sig scope ≡ true
predicate_from ks o sig scope rank e b h = ap (λ (p : Option Rank). is_predicate_of ks p sig scope) e ∙ and_from (is_bool rank.result) (are_arguments ks rank.args sig scope) b h

pub result_parts : (ks : List Sort) (o : Option Rank) (sig : Sig) (scope : List SortId) (s : SortId) → result_of ks o sig scope ≡ Some s → (rank : Rank) × (o ≡ Some rank) × (rank.result ≡ Ty.Of s) × (are_arguments ks rank.args sig scope ≡ true)
result_parts ks None sig scope s e = cc
result_parts ks (Some rank) sig scope s e = let p = when_some (are_arguments ks rank.args sig scope) (declared_sort rank.result) s e in (rank, refl, declared_is rank.result s p.1, p.0)

pub result_from : (ks : List Sort) (o : Option Rank) (sig : Sig) (scope : List SortId) (s : SortId) (rank : Rank) → o ≡ Some rank → rank.result ≡ Ty.Of s → are_arguments ks rank.args sig scope ≡ true → result_of ks o sig scope ≡ Some s
result_from ks o sig scope s rank e r h = ap (λ (p : Option Rank). result_of ks p sig scope) e ∙ (λ i. cond (h i) (declared_sort (r i)) None)

pub element_at : (m : Reading) (scope : List SortId) (env : List ℕ) (v : ℕ) (s : SortId) → IsElements m scope env → slice_get scope v ≡ Some s → slice_index env v < m.size s.0
element_at m [] env v s h e = cc
element_at m (u ∷ scope) [] v s h e = absurd h
element_at m (u ∷ scope) (x ∷ env) zero s h e = let same : u ≡ s = cc e in subst (λ (w : SortId). x < m.size w.0) same h.0
element_at m (u ∷ scope) (x ∷ env) (suc v) s h e = element_at m scope env v s h.1 e
