-- What the tests check before they elaborate a term.
use Rattle.std.proofs.Common.{List, [], ap, arith, drop, get_or, length, map, refl, subst, suc, sym, true, zero, ℕ, ◌+◌, ◌<◌, ◌∙◌, ◌∷◌, ◌≡◌}
use Rattle.std.specs.Prelude.{Some, slice_get, ◌==◌}
use Rattle.std.proofs.lemmas.Bool.{and_from, eqb-true}
use Rattle.std.proofs.lemmas.List.{drop_more}
use Rattle.fm_base.specs.Truth.{is_bool}
use Rattle.fm_base.specs.declared.ids.SortId.{SortId}
use Rattle.fm_base.specs.declared.ids.SymId.{SymId}
use Rattle.fm_base.specs.declared.signature.Ty.{Ty}
use Rattle.fm_sexp.specs.Items.{all_within, spans_within}
use Rattle.fm_sexp.specs.declared.items.Sexp.{Sexp}
use Rattle.fm_arena.specs.Meanings.{Term, type_at}
use Rattle.fm_arena.specs.Trees.{all_things}
use Rattle.fm_apply.specs.Applied.{same_type}
use Rattle.fm_apply.specs.Scoped.{AreInForce, IsInForce, StandsWell}
use Rattle.fm_apply.specs.declared.entry.Function.{Function}
use Rattle.fm_apply.specs.declared.entry.Stands.{Stands}

-- an item within a text, one after the other
pub lie_step : (n : ℕ) (items : List Sexp) (i : ℕ) (x : Sexp) → i < length items → x ≡ get_or items i x → spans_within n x ≡ true → (all_within n (drop i items) ≡ true → all_within n items ≡ true) → all_within n (drop (i + 1) items) ≡ true → all_within n items ≡ true
lie_step n items i x lt is h go rest =
    let next : drop i items ≡ x ∷ drop (i + 1) items = subst (λ (y : Sexp). drop i items ≡ y ∷ drop (i + 1) items) (sym is) (drop_more items i x lt) in
    go (subst (λ (l : List Sexp). all_within n l ≡ true) (sym next) (and_from (spans_within n x) (all_within n (drop (i + 1) items)) h rest))

drop_here : {A : Type 0} (xs : List A) (i : ℕ) (x : A) → slice_get xs i ≡ Some x → drop i xs ≡ x ∷ drop (i + 1) xs
drop_here [] i x h = cc
drop_here (y ∷ xs) zero x h = let s : y ≡ x = cc in ap (λ z. z ∷ xs) s
drop_here (y ∷ xs) (suc i) x h =
    let up : suc (i + 1) ≡ suc i + 1 = omega arith in
    drop_here xs i x h ∙ ap (λ (k : ℕ). x ∷ drop k (y ∷ xs)) up

pub force_step : (ts : List Term) (fs : List (List ℕ × Function)) (i : ℕ) (e : List ℕ × Function) → slice_get fs i ≡ Some e → IsInForce ts e.1 → (AreInForce ts (drop i fs) → AreInForce ts fs) → AreInForce ts (drop (i + 1) fs) → AreInForce ts fs
force_step ts fs i e s h go rest = go (subst (λ (l : List (List ℕ × Function)). AreInForce ts l) (sym (drop_here fs i e s)) (h, rest))

same_number : (a b : SortId) → (a.0 == b.0) ≡ true → a ≡ b
same_number a b e = λ i. record { 0 = eqb-true a.0 b.0 e i }

pub same_is : (a b : Ty) → same_type a b ≡ true → a ≡ b
same_is Ty.Bool Ty.Bool e = refl
same_is Ty.Bool (Ty.Of s) e = cc
same_is (Ty.Of s) Ty.Bool e = cc
same_is (Ty.Of s) (Ty.Of u) e = ap (λ (x : SortId). Ty.Of x) (same_number s u e)

pub well_declared : (ts : List Term) (f : Function) (s : SymId) → f.stands ≡ Stands.Declared s → all_things (map is_bool f.args) ≡ true → IsInForce ts f
well_declared ts f s e h = subst (λ (t : Stands). StandsWell ts f.args f.result t) (sym e) h

pub well_defined : (ts : List Term) (f : Function) (n : ℕ) → f.stands ≡ Stands.Defined n → n < length ts → type_at ts n ≡ f.result → IsInForce ts f
well_defined ts f n e lt h = subst (λ (t : Stands). StandsWell ts f.args f.result t) (sym e) (lt, h)
