-- Subterms by a list that is what was found and what is still to be looked at, in which each stands once.
use Rattle.std.proofs.Common.{◌≡◌, ℕ, zero, suc, ◌+◌, ◌<◌, ◌≤◌, inl, inr, Bool, true, false, ◌&&◌, List, [], ◌∷◌, ◌++◌, length, get_or, Option, Some, not, refl, sym, ap, subst, ◌∙◌, arith}
use Rattle.std.specs.Prelude.{◌==◌, if◌then◌else◌, nat_lt, slice_get, eqb}
use Rattle.std.specs.List.{Contains, IsDistinct, list_all, list_any}
use Rattle.std.proofs.lemmas.Bool.{and_from, and_parts, cases_lt, eq-eqb, eqb-true, false≢true, lt-ltb, ltb-true, or_cases, or_left, or_right}
use Rattle.std.proofs.lemmas.Cmp.{nat_eq_equiv}
use Rattle.std.proofs.lemmas.List.{length-append}
use Rattle.std.proofs.lemmas.List.Folds.{list_any-append}
use Rattle.std.proofs.lemmas.List.Sums.{AllPass-from_list_all, list_all-from_AllPass}
use Rattle.std.proofs.lemmas.Map.Keys.{IsDistinct-push}
use Rattle.std.proofs.lemmas.Map.Steps.{length-le_from_distinct_below}
use Rattle.std.proofs.lemmas.Option.{get_or_from_slice_get, slice_get_within}
use Rattle.fm_base.specs.declared.ids.TermId.{TermId}
use Rattle.fm_base.specs.declared.signature.Sig.{Sig}
use Rattle.fm_base.specs.declared.signature.Ty.{Ty}
use Rattle.fm_bank.specs.Interning.{IsFront}
use Rattle.fm_bank.specs.Subterms.{AreSubterms, IsSubterm, IsSubtermSet, added, all_added, is_found}
use Rattle.fm_bank.specs.Terms.{AreTerms, Term, are_of_types, are_terms, are_terms_after, is_same, is_term, is_type, numbers, type_of}
use Rattle.fm_bank.proofs.Growing.{front-refl, front-trans, front-with}
use Rattle.fm_bank.proofs.Meanings.{arguments_typed, typed_within}

-- what is found stays found
found_front : (ns ms : List ℕ) (n : ℕ) → IsFront ns ms → is_found ns n ≡ true → is_found ms n ≡ true
found_front ns ms n f e = ap (λ (l : List ℕ). is_found l n) (sym f.1) ∙ list_any-append (λ (m : ℕ). n == m) ns f.0 ∙ or_left (is_found ns n) (is_found f.0 n) e

all_front : (ns ts : List ℕ) → IsFront ns (all_added ns ts)
all_front ns [] = front-refl ns
all_front ns (t ∷ ts) = front-trans ns (added ns t) _ (front-with (is_found ns t) ns t) (all_front (added ns t) ts)

found_with : (b : Bool) (ns : List ℕ) (n : ℕ) → is_found ns n ≡ b → is_found (if b then ns else ns ++ n ∷ []) n ≡ true
found_with true ns n e = e
found_with false ns n e = list_any-append (λ (m : ℕ). n == m) ns (n ∷ []) ∙ or_right (is_found ns n) (is_found (n ∷ []) n) (or_left (n == n) false (eq-eqb n n refl))

all_found : (ns ts : List ℕ) → list_all (is_found (all_added ns ts)) ts ≡ true
all_found ns [] = refl
all_found ns (t ∷ ts) = and_from _ _ (found_front (added ns t) (all_added (added ns t) ts) t (all_front (added ns t) ts) (found_with (is_found ns t) ns t refl)) (all_found (added ns t) ts)

-- what holds of all that is found and of all that is added
pass_with : (b : Bool) (S : ℕ → Bool) (ns : List ℕ) (n : ℕ) → list_all S ns ≡ true → S n ≡ true → list_all S (if b then ns else ns ++ n ∷ []) ≡ true
pass_with true S ns n a e = a
pass_with false S [] n a e = and_from _ _ e refl
pass_with false S (m ∷ ns) n a e = let p = and_parts (S m) (list_all S ns) a in and_from _ _ p.0 (pass_with false S ns n p.1 e)

all_pass : (S : ℕ → Bool) (ns ts : List ℕ) → list_all S ns ≡ true → list_all S ts ≡ true → list_all S (all_added ns ts) ≡ true
all_pass S ns [] a e = a
all_pass S ns (t ∷ ts) a e = let p = and_parts (S t) (list_all S ts) e in all_pass S (added ns t) ts (pass_with (is_found ns t) S ns t a p.0) p.1

once_with : (b : Bool) (ns : List ℕ) (n : ℕ) → is_found ns n ≡ b → IsDistinct eqb ns → IsDistinct eqb (if b then ns else ns ++ n ∷ [])
once_with true ns n e d = d
once_with false ns n e d = IsDistinct-push nat_eq_equiv ns n d e

all_once : (ns ts : List ℕ) → IsDistinct eqb ns → IsDistinct eqb (all_added ns ts)
all_once ns [] d = d
all_once ns (t ∷ ts) d = all_once (added ns t) ts (once_with (is_found ns t) ns t refl d)

none_once : IsDistinct eqb []
unfolding IsDistinct
none_once = tt

all_kept : (ns ms ts : List ℕ) → IsFront ns ms → list_all (is_found ns) ts ≡ true → list_all (is_found ms) ts ≡ true
all_kept ns ms [] f e = refl
all_kept ns ms (t ∷ ts) f e = let p = and_parts (is_found ns t) (list_all (is_found ns) ts) e in and_from _ _ (found_front ns ms t f p.0) (all_kept ns ms ts f p.1)

-- arguments are earlier terms
types_below : (sig : Sig) (before : List Term) (bound : ℕ) (ns : List ℕ) (us : List Ty) → length before ≤ bound → are_of_types sig before ns us ≡ true → list_all (λ (n : ℕ). nat_lt n bound) ns ≡ true
types_below sig before bound [] us le e = refl
types_below sig before bound (n ∷ ns) [] le e = absurd (false≢true e)
types_below sig before bound (n ∷ ns) (u ∷ us) le e =
    let p = and_parts (is_type (type_of sig before n) u) (are_of_types sig before ns us) e in
    let lt = typed_within sig before n u p.0 in
    and_from _ _ (lt-ltb n bound (omega (arith, lt, le))) (types_below sig before bound ns us le p.1)

args_below : (sig : Sig) (before ts : List Term) (bound n : ℕ) (t : Term) → length before + length ts ≤ bound → are_terms_after sig before ts ≡ true → slice_get ts n ≡ Some t → list_all (λ (a : ℕ). nat_lt a bound) t.args ≡ true
args_below sig before [] bound n t le good e = cc
args_below sig before (x ∷ xs) bound zero t le good e =
    let p = and_parts (is_term sig before x) (not (list_any (is_same x) before) && are_terms_after sig (before ++ x ∷ []) xs) good in
    let r = arguments_typed sig before (slice_get sig.ranks x.symbol) x.args p.0 in
    let same : x ≡ t = cc e in
    subst (λ (y : Term). list_all (λ (a : ℕ). nat_lt a bound) y.args ≡ true) same (types_below sig before bound x.args r.0.args (omega (arith, le)) r.2)
args_below sig before (x ∷ xs) bound (suc n) t le good e =
    let p = and_parts (is_term sig before x) (not (list_any (is_same x) before) && are_terms_after sig (before ++ x ∷ []) xs) good in
    let q = and_parts (not (list_any (is_same x) before)) (are_terms_after sig (before ++ x ∷ []) xs) p.1 in
    let long = length-append before (x ∷ []) in
    args_below sig (before ++ x ∷ []) xs bound n t (omega (arith, le, long)) q.1 e

-- how far the list was looked at
pub record IsWalk (terms : List Term) (roots ns : List ℕ) (i : ℕ) : Type 0 where
  pub only : (S : ℕ → Bool) → IsSubtermSet terms roots S → list_all S ns ≡ true
  pub has_roots : list_all (is_found ns) roots ≡ true
  pub has_args : (j n : ℕ) (t : Term) → j < i → slice_get ns j ≡ Some n → slice_get terms n ≡ Some t → list_all (is_found ns) t.args ≡ true
  pub once : IsDistinct eqb ns
  pub within : i ≤ length ns
  pub below : list_all (λ (n : ℕ). nat_lt n (length terms)) ns ≡ true

pub walk_start : (terms : List Term) (roots : List ℕ) → list_all (λ (n : ℕ). nat_lt n (length terms)) roots ≡ true → IsWalk terms roots (all_added [] roots) 0
walk_start terms roots below =
    record {
      only = λ S h. all_pass S [] roots refl (list_all-from_AllPass S roots h.has_roots);
      has_roots = all_found [] roots;
      has_args = λ j n t lt e g. absurd (omega (arith, lt));
      once = all_once [] roots none_once;
      within = omega arith;
      below = all_pass (λ (n : ℕ). nat_lt n (length terms)) [] roots refl below;
    }

pass_at : (S : ℕ → Bool) (ns : List ℕ) (i n : ℕ) → list_all S ns ≡ true → slice_get ns i ≡ Some n → S n ≡ true
pass_at S [] i n a e = cc
pass_at S (x ∷ ns) zero n a e = let same : x ≡ n = cc e in subst (λ (y : ℕ). S y ≡ true) same (and_parts (S x) (list_all S ns) a).0
pass_at S (x ∷ ns) (suc i) n a e = pass_at S ns i n (and_parts (S x) (list_all S ns) a).1 e

front_long : (ns ms : List ℕ) → IsFront ns ms → length ns ≤ length ms
front_long ns ms f = let long = length-append ns f.0 in subst (λ (l : List ℕ). length ns ≤ length l) f.1 (omega (arith, long))

get_back : (ns ms : List ℕ) (j n : ℕ) → IsFront ns ms → j < length ns → slice_get ms j ≡ Some n → slice_get ns j ≡ Some n
get_back [] ms j n f lt e = absurd (omega (arith, lt))
get_back (x ∷ ns) [] j n f lt e = cc
get_back (x ∷ ns) (y ∷ ms) zero n f lt e = let same : x ≡ y = cc f.1 in ap Some same ∙ e
get_back (x ∷ ns) (y ∷ ms) (suc j) n f lt e = let rest : ns ++ f.0 ≡ ms = cc f.1 in get_back ns ms j n (f.0, rest) (omega (arith, lt)) e

pub walk_next : (sig : Sig) (terms : List Term) (roots ns : List ℕ) (i n : ℕ) (t : Term) → are_terms sig terms ≡ true → IsWalk terms roots ns i → slice_get ns i ≡ Some n → slice_get terms n ≡ Some t → IsWalk terms roots (all_added ns t.args) (i + 1)
walk_next sig terms roots ns i n t good w here is =
    let front = all_front ns t.args in
    let lt = slice_get_within ns i n here in
    record {
      only = λ S h. all_pass S ns t.args (w.only S h) (list_all-from_AllPass S t.args (h.has_args n t (pass_at S ns i n (w.only S h) here) is));
      has_roots = all_kept ns (all_added ns t.args) roots front w.has_roots;
      has_args = λ j m u le e g.
          let old : slice_get ns j ≡ Some m = get_back ns (all_added ns t.args) j m front (omega (arith, le, lt)) e in
          elim (cases_lt j i) [
            | inl before ↦ all_kept ns (all_added ns t.args) u.args front (w.has_args j m u before old g)
            | inr now ↦
                let place : j ≡ i = omega (arith, le, now) in
                let one : n ≡ m = cc (sym here ∙ (ap (slice_get ns) (sym place) ∙ old)) in
                let same : t ≡ u = cc (sym is ∙ (ap (slice_get terms) one ∙ g)) in
                subst (λ (x : Term). list_all (is_found (all_added ns t.args)) x.args ≡ true) same (all_found ns t.args)
          ];
      once = all_once ns t.args w.once;
      within = let more = front_long ns (all_added ns t.args) front in omega (arith, lt, more);
      below = all_pass (λ (a : ℕ). nat_lt a (length terms)) ns t.args w.below (args_below sig [] terms (length terms) n t (omega arith) good is);
    }

found_get : (ns : List ℕ) (n : ℕ) → is_found ns n ≡ true → (j : ℕ) × (slice_get ns j ≡ Some n)
found_get [] n e = absurd (false≢true e)
found_get (x ∷ ns) n e =
    elim (or_cases (n == x) (is_found ns n) e) [
      | inl here ↦ (0, ap Some (sym (eqb-true n x here)))
      | inr rest ↦ let r = found_get ns n rest in (suc r.0, r.1)
    ]

get_contains : (ns : List ℕ) (j n : ℕ) → slice_get ns j ≡ Some n → Contains ns n
get_contains ns j n e = (j, slice_get_within ns j n e, get_or_from_slice_get ns j n n e)

contains_pass : (S : ℕ → Bool) (ns : List ℕ) (n : ℕ) → list_all S ns ≡ true → Contains ns n → S n ≡ true
contains_pass S ns n a c = subst (λ (m : ℕ). S m ≡ true) c.2 (AllPass-from_list_all S ns a c.0 n c.1)

-- where all of the list was looked at, what is found is a set that has the roots and the arguments
pub walk_end : (terms : List Term) (roots ns : List ℕ) (i : ℕ) → IsWalk terms roots ns i → length ns ≤ i → AreSubterms terms roots ns
walk_end terms roots ns i w le n =
    let closed : IsSubtermSet terms roots (is_found ns) =
    record {
      has_roots = AllPass-from_list_all (is_found ns) roots w.has_roots;
      has_args = λ m t e g.
          let r = found_get ns m e in
          let lt = slice_get_within ns r.0 m r.1 in
          AllPass-from_list_all (is_found ns) t.args (w.has_args r.0 m t (omega (arith, lt, le)) r.1 g);
    } in
    let back : IsSubterm terms roots n → Contains ns n =
    λ h.
    let r = found_get ns n (h (is_found ns) closed) in
    get_contains ns r.0 n r.1 in
    (λ c S h. contains_pass S ns n (w.only S h) c, back)

-- no more are found than there are terms
pub walk_short : (terms : List Term) (roots ns : List ℕ) (i : ℕ) → IsWalk terms roots ns i → length ns ≤ length terms
walk_short terms roots ns i w =
    length-le_from_distinct_below ns (length terms) w.once (λ q e. let r = found_get ns q e in ltb-true q (length terms) (pass_at (λ (n : ℕ). nat_lt n (length terms)) ns r.0 q w.below r.1))

-- the numbers of a set of terms
any_numbers : (ids : List TermId) (n : ℕ) → list_any (λ (t : TermId). n == t.0) ids ≡ is_found (numbers ids) n
any_numbers [] n = refl
any_numbers (t ∷ ids) n = ap (λ (b : Bool). Rattle.std.proofs.Common.◌||◌ (n == t.0) b) (any_numbers ids n)

numbers_with : (b : Bool) (ids : List TermId) (t : TermId) → numbers (if b then ids else ids ++ t ∷ []) ≡ (if b then numbers ids else numbers ids ++ t.0 ∷ [])
numbers_with true ids t = refl
numbers_with false [] t = refl
numbers_with false (u ∷ ids) t = ap (λ (l : List ℕ). u.0 ∷ l) (numbers_with false ids t)

pub numbers_added : (ids new : List TermId) (t : TermId) → new ≡ (if list_any (λ (u : TermId). t.0 == u.0) ids then ids else ids ++ t ∷ []) → numbers new ≡ added (numbers ids) t.0
numbers_added ids new t e =
    ap numbers e ∙ (numbers_with (list_any (λ (u : TermId). t.0 == u.0) ids) ids t ∙ ap (λ (b : Bool). if b then numbers ids else numbers ids ++ t.0 ∷ []) (any_numbers ids t.0))

pub below_numbers : (terms : List Term) (ids : List TermId) → AreTerms terms ids → list_all (λ (a : ℕ). nat_lt a (length terms)) (numbers ids) ≡ true
below_numbers terms [] h = refl
below_numbers terms (t ∷ ids) h = and_from _ _ (lt-ltb t.0 (length terms) (h 0 t (omega arith))) (below_numbers terms ids (λ i d lt. h (suc i) d (omega (arith, lt))))

pub numbers_below : (terms : List Term) (ids : List TermId) → list_all (λ (a : ℕ). nat_lt a (length terms)) (numbers ids) ≡ true → AreTerms terms ids
numbers_below terms [] e k d lt = absurd (omega (arith, lt))
numbers_below terms (t ∷ ids) e zero d lt = ltb-true t.0 (length terms) (and_parts (nat_lt t.0 (length terms)) (list_all (λ (a : ℕ). nat_lt a (length terms)) (numbers ids)) e).0
numbers_below terms (t ∷ ids) e (suc k) d lt = numbers_below terms ids (and_parts (nat_lt t.0 (length terms)) (list_all (λ (a : ℕ). nat_lt a (length terms)) (numbers ids)) e).1 k d (omega (arith, lt))

pub number_below : (terms : List Term) (ids : List TermId) (i : ℕ) (t : TermId) → slice_get ids i ≡ Some t → list_all (λ (a : ℕ). nat_lt a (length terms)) (numbers ids) ≡ true → t.0 < length terms
number_below terms [] i t e b = cc
number_below terms (u ∷ ids) zero t e b =
    let same : u ≡ t = cc e in
    subst (λ (x : TermId). x.0 < length terms) same (ltb-true u.0 (length terms) (and_parts (nat_lt u.0 (length terms)) (list_all (λ (a : ℕ). nat_lt a (length terms)) (numbers ids)) b).0)
number_below terms (u ∷ ids) (suc i) t e b = number_below terms ids i t e (and_parts (nat_lt u.0 (length terms)) (list_all (λ (a : ℕ). nat_lt a (length terms)) (numbers ids)) b).1

pub numbers_long : (ids : List TermId) → length (numbers ids) ≡ length ids
numbers_long [] = refl
numbers_long (t ∷ ids) = let rest = numbers_long ids in omega (arith, rest)
