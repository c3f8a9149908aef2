-- A clause of the variables that occur, read off the ascending list of their numbers.
use Rattle.std.proofs.Common.{◌≡◌, ℕ, zero, suc, ◌+◌, ◌<◌, ◌≤◌, ◌==◌, Bool, true, false, ◌||◌, cond, List, [], ◌∷◌, ◌++◌, length, map, drop, get_or, Option, Some, None, inl, inr, ap, refl, sym, subst, ◌∙◌, arith, append_assoc, length-append}
use Rattle.std.specs.Prelude.{nat_lt, slice_get, slice_index}
use Rattle.std.specs.List.{Contains}
use Rattle.std.specs.List.Sorted.{IsStrictlyIncreasing}
use Rattle.std.proofs.lemmas.Bool.{cases_lt, eqb-true, ltb-true, lt-ltb, le-ltb, ne_eqb, eq-eqb, or_left, or_right, or_cases, both_ways, false≢true}
use Rattle.std.proofs.lemmas.List.{append-nil, drop_all}
use Rattle.std.proofs.lemmas.List.Kept.{AllPairs-from_increasing}
use Rattle.fm_base.specs.declared.ids.SortId.{SortId}
use Rattle.fm_bank.specs.declared.clause.Clause.{Clause}
use Rattle.fm_bank.specs.declared.clause.Plit.{Plit}
use Rattle.fm_nnf.specs.Places.{Occurs, kept, later, place}
use Rattle.fm_clauses.specs.Listed.{Ascends, Lists, below, listed, reads, with_some}
use Rattle.fm_clauses.specs.Narrow.{any_of, clause_of, occurs, renamed_literal}
use Rattle.fm_clauses.proofs.Walks.{drop_read}

-- what several have, one after the other
or_assoc : (a b c : Bool) → ((a || b) || c) ≡ (a || (b || c))
or_assoc true b c = refl
or_assoc false b c = refl

or_none : (a : Bool) → a ≡ (a || false)
or_none true = refl
or_none false = refl

pub lists_both : (p q : Occurs) (a b c : List ℕ) → Lists p a b → Lists q b c → Lists (λ k. p k || q k) a c
lists_both p q a b c one two k = two k ∙ ap (λ (v : Bool). v || q k) (one k) ∙ or_assoc (listed a k) (p k) (q k)

pub lists_nothing : (a : List ℕ) → Lists (λ k. false) a a
lists_nothing a k = or_none (listed a k)

pub lists_more : {X : Type 0} (has : X → Occurs) (xs : List X) (i : ℕ) (x : X) → i < length xs → x ≡ get_or xs i x → (a b c : List ℕ) → Lists (has x) a b → Lists (any_of has (drop (i + 1) xs)) b c → Lists (any_of has (drop i xs)) a c
lists_more has xs i x lt e a b c one two = subst (λ ys. Lists (any_of has ys) a c) (sym (drop_read xs i x lt e)) (lists_both (has x) (any_of has (drop (i + 1) xs)) a b c one two)

pub lists_end : {X : Type 0} (has : X → Occurs) (xs : List X) (i : ℕ) → length xs ≤ i → (a : List ℕ) → Lists (any_of has (drop i xs)) a a
lists_end has xs i le a = subst (λ ys. Lists (any_of has ys) a a) (sym (drop_all i xs le)) (lists_nothing a)

listed_push : (xs : List ℕ) (v k : ℕ) → listed (xs ++ v ∷ []) k ≡ (listed xs k || (v == k))
listed_push [] v k = sym (or_none (v == k))
listed_push (a ∷ xs) v k = ap (λ (b : Bool). (a == k) || b) (listed_push xs v k) ∙ sym (or_assoc (a == k) (listed xs k) (v == k))

pub lists_push : (a b : List ℕ) (v : ℕ) (p : Occurs) → b ≡ a ++ v ∷ [] → ((k : ℕ) → p k ≡ (v == k)) → Lists p a b
lists_push a b v p e is k = ap (λ (ls : List ℕ). listed ls k) e ∙ listed_push a v k ∙ ap (λ (c : Bool). listed a k || c) (sym (is k))

-- below the numbers of an ascending list none stands in it
none_listed : (low k : ℕ) (ls : List ℕ) → k < low → Ascends low ls → listed ls k ≡ false
none_listed low k [] lt h = refl
none_listed low k (l ∷ ls) lt h =
    let le = h.0 in
    ap (λ (b : Bool). b || listed ls k) (ne_eqb l k (λ e. absurd (omega (arith, e, le, lt)))) ∙ none_listed (suc l) k ls (omega (arith, le, lt)) h.1

-- the test from a number on
abbrev pub from : Occurs → ℕ → Occurs
from p low k = p (low + k)

from_later : (p : Occurs) (low : ℕ) → later (from p low) ≡ from p (suc low)
from_later p low = λ i k. p (same k i)
  where
    same : (k : ℕ) → low + suc k ≡ suc low + k
    same k = omega arith

at_low : (p : Occurs) (low : ℕ) → from p low zero ≡ p low
at_low p low = ap p (omega arith)

-- the list has exactly what passes from low on
abbrev pub Has : Occurs → ℕ → List ℕ → Type 0
Has p low ls = (k : ℕ) → low ≤ k → p k ≡ listed ls k

-- either the list begins at low, which passes, or nothing passes there
data First (p : Occurs) (low : ℕ) (ls : List ℕ) : Type 0 where
  Here : (rest : List ℕ) → ls ≡ low ∷ rest → Ascends (suc low) rest → Has p (suc low) rest → p low ≡ true → First p low ls
  Not : Ascends (suc low) ls → Has p (suc low) ls → p low ≡ false → First p low ls

first : (p : Occurs) (low : ℕ) (ls : List ℕ) → Ascends low ls → Has p low ls → First p low ls
first p low [] up has = Not tt (λ k le. has k (omega arith)) (has low (omega arith))
first p low (l ∷ ls) up has =
    let le = up.0 in
    elim (cases_lt low l) [
      | inl lt ↦ Not (lt, up.1) (λ k h. has k (omega arith)) (has low (omega arith) ∙ none_listed (suc low) low (l ∷ ls) (omega arith) (lt, up.1))
      | inr ge ↦
          let same : l ≡ low = omega (arith, le, ge) in
          Here ls (ap (λ (k : ℕ). k ∷ ls) same) (subst (λ (k : ℕ). Ascends (suc k) ls) same up.1)
          (λ k h. has k (omega arith) ∙ ap (λ (b : Bool). b || listed ls k) (ne_eqb l k (λ e. absurd (omega (arith, e, same, h)))))
          (has low (omega arith) ∙ or_left (l == low) (listed ls low) (eq-eqb l low same))
    ]

none_below : (low v : ℕ) (ls : List ℕ) → v ≤ low → Ascends low ls → below ls v ≡ 0
none_below low v [] le h = refl
none_below low v (l ∷ ls) le h = let a = h.0 in ap (λ (b : Bool). cond b (suc (below ls v)) zero) (le-ltb l v (omega (arith, a, le)))

pub place_reads : (p : Occurs) (v low : ℕ) (ls : List ℕ) → Ascends low ls → Has p low ls → place (from p low) v ≡ below ls (low + v)
unfolding place
place_reads p zero low ls up has = sym (none_below low (low + 0) ls (omega arith) up)
place_reads p (suc v) low ls up has =
    let t = from_later p low in
    let s : suc low + v ≡ low + suc v = omega arith in
    elim (first p low ls up has) [
      | Here rest is up' has' passes ↦
          let inner : place (later (from p low)) v ≡ below rest (low + suc v) = (λ i. place (t i) v) ∙ place_reads p v (suc low) rest up' has' ∙ ap (below rest) s in
          (λ i. cond ((at_low p low ∙ passes) i) (suc (inner i)) (place (later (from p low)) v)) ∙ sym (ap (λ (c : Bool). cond c (suc (below rest (low + suc v))) zero) (lt-ltb low (low + suc v) (omega arith))) ∙ ap (λ (ms : List ℕ). below ms (low + suc v)) (sym is)
      | Not up' has' fails ↦ (λ i. cond ((at_low p low ∙ fails) i) (suc (place (later (from p low)) v)) (place (t i) v)) ∙ place_reads p v (suc low) ls up' has' ∙ ap (below ls) s
    ]

-- nothing stands past the end
none_read : {X : Type 0} (xs : List X) (low : ℕ) (ls : List ℕ) → length xs ≤ low → Ascends low ls → reads xs ls ≡ []
none_read xs low [] le up = refl
none_read xs low (l ∷ ls) le up =
    let a = up.0 in
    ap (λ o. with_some o (reads xs ls)) (past xs l (omega (arith, a, le))) ∙ none_read xs (suc l) ls (omega (arith, a, le)) up.1
  where
    past : {Y : Type 0} (ys : List Y) (k : ℕ) → length ys ≤ k → slice_get ys k ≡ None
    past [] k h = refl
    past (y ∷ ys) zero h = absurd (omega arith)
    past (y ∷ ys) (suc k) h = past ys k (omega arith)

get_seam : {X : Type 0} (pre : List X) (x : X) (xs : List X) → slice_get (pre ++ x ∷ xs) (length pre) ≡ Some x
get_seam [] x xs = refl
get_seam (y ∷ pre) x xs = get_seam pre x xs

pub kept_reads : {X : Type 0} (p : Occurs) (xs pre : List X) (low : ℕ) (ls : List ℕ) → low ≡ length pre → Ascends low ls → Has p low ls → kept (from p low) xs ≡ reads (pre ++ xs) ls
kept_reads p [] pre low ls e up has =
    let l = length-append pre [] in
    sym (none_read (pre ++ []) low ls (omega (arith, e, l)) up)
kept_reads p (x ∷ xs) pre low ls e up has =
    let t = from_later p low in
    let a = append_assoc pre (x ∷ []) xs in
    let l = length-append pre (x ∷ []) in
    let next : suc low ≡ length (pre ++ x ∷ []) = omega (arith, e, l) in
    elim (first p low ls up has) [
      | Here rest is up' has' passes ↦
          let inner : kept (later (from p low)) xs ≡ reads (pre ++ x ∷ xs) rest = (λ i. kept (t i) xs) ∙ kept_reads p xs (pre ++ x ∷ []) (suc low) rest next up' has' ∙ (λ i. reads (a i) rest) in
          (λ i. cond ((at_low p low ∙ passes) i) (x ∷ inner i) (kept (later (from p low)) xs)) ∙ ap (λ o. with_some o (reads (pre ++ x ∷ xs) rest)) (sym ((λ i. slice_get (pre ++ x ∷ xs) (e i)) ∙ get_seam pre x xs)) ∙ ap (reads (pre ++ x ∷ xs)) (sym is)
      | Not up' has' fails ↦ (λ i. cond ((at_low p low ∙ fails) i) (x ∷ kept (later (from p low)) xs) (kept (t i) xs)) ∙ kept_reads p xs (pre ++ x ∷ []) (suc low) ls next up' has' ∙ (λ i. reads (a i) ls)
    ]

-- rising by neighbours
rest_rises : (l : ℕ) (ls : List ℕ) → IsStrictlyIncreasing (l ∷ ls) → IsStrictlyIncreasing ls
rest_rises l ls h k lt =
    let e : suc k + 1 ≡ suc (k + 1) = omega arith in
    subst (λ (n : ℕ). slice_index ls k < slice_index (l ∷ ls) n) e (h (suc k) (omega (arith, lt)))

ascends_rest : (low l : ℕ) (ls : List ℕ) → low ≤ l → IsStrictlyIncreasing (l ∷ ls) → Ascends low (l ∷ ls)
ascends_rest low l [] le h = (le, tt)
ascends_rest low l (m ∷ ls) le h = (le, ascends_rest (suc l) m ls (h zero (omega arith)) (rest_rises l (m ∷ ls) h))

pub ascends : (ls : List ℕ) → IsStrictlyIncreasing ls → Ascends 0 ls
ascends [] h = tt
ascends (l ∷ ls) h = ascends_rest 0 l ls (omega arith) h

from_zero : (p : Occurs) → from p 0 ≡ p
from_zero p = λ i k. p (same k i)
  where
    same : (k : ℕ) → 0 + k ≡ k
    same k = omega arith

pub clause_is : (scope : List SortId) (lits : List Plit) (used : List ℕ) → IsStrictlyIncreasing used → ((k : ℕ) → listed used k ≡ occurs lits k) → (vars : List SortId) (made : List Plit) → vars ≡ reads scope used → made ≡ map (renamed_literal (below used)) lits
    → (let c : Clause = record { vars = vars; lits = made } in c) ≡ clause_of scope lits
clause_is scope lits used rises same vars made ev em =
    let p = occurs lits in
    let up = ascends used rises in
    let has : Has p 0 used = λ k le. sym (same k) in
    let kept_is : reads scope used ≡ kept p scope = sym (kept_reads p scope [] 0 used refl up has) ∙ (λ j. kept (from_zero p j) scope) in
    λ i. record { vars = (ev ∙ kept_is) i; lits = (em ∙ ap (λ (g : ℕ → ℕ). map (renamed_literal g) lits) (λ j v. place_is p used up has v j)) i }
  where
    place_is : (p : Occurs) (ls : List ℕ) → Ascends 0 ls → Has p 0 ls → (v : ℕ) → below ls v ≡ place p v
    place_is p ls up has v = (let e : v ≡ 0 + v = omega arith in ap (below ls) e) ∙ sym (place_reads p v 0 ls up has) ∙ (λ j. place (from_zero p j) v)

pub lists_as : (p q : Occurs) (a b : List ℕ) → Lists p a b → ((k : ℕ) → q k ≡ p k) → Lists q a b
lists_as p q a b h same k = h k ∙ ap (λ (v : Bool). listed a k || v) (sym (same k))

past : {X : Type 0} (xs : List X) (v : ℕ) → length xs ≤ v → slice_get xs v ≡ None
past [] v h = refl
past (x ∷ xs) zero h = absurd (omega arith)
past (x ∷ xs) (suc v) h = past xs v (omega arith)

there : {X : Type 0} (xs : List X) (v : ℕ) (x : X) → v < length xs → x ≡ get_or xs v x → slice_get xs v ≡ Some x
there [] v x lt e = absurd (omega arith)
there (y ∷ xs) zero x lt e = ap (λ z. Some z) (sym e)
there (y ∷ xs) (suc v) x lt e = there xs v x (omega arith) e

pub read_none : {X : Type 0} (xs : List X) (v : ℕ) (s : List X) → false ≡ nat_lt v (length xs) → s ≡ s ++ reads xs (v ∷ [])
read_none xs v s h =
    let ge : length xs ≤ v = elim (cases_lt v (length xs)) [ inl lt ↦ absurd (both_ways (nat_lt v (length xs)) (sym h) (lt-ltb v (length xs) lt)) | inr ge ↦ omega (arith, ge) ] in
    sym (append-nil s) ∙ ap (λ o. s ++ with_some o []) (sym (past xs v ge))

pub read_some : {X : Type 0} (xs : List X) (v : ℕ) (x : X) (s0 s1 : List X) → true ≡ nat_lt v (length xs) → x ≡ get_or xs v x → s1 ≡ s0 ++ x ∷ [] → s1 ≡ s0 ++ reads xs (v ∷ [])
read_some xs v x s0 s1 h e is = is ∙ ap (λ o. s0 ++ with_some o []) (sym (there xs v x (ltb-true v (length xs) (sym h)) e))

-- how many are below, by a place
pub below_is : (ls : List ℕ) (v i : ℕ) → i ≤ length ls → ((k : ℕ) → k < i → get_or ls k 0 < v) → ((k : ℕ) → i ≤ k → k < length ls → v ≤ get_or ls k 0) → below ls v ≡ i
below_is [] v zero le low high = refl
below_is [] v (suc i) le low high = absurd (omega arith)
below_is (l ∷ ls) v zero le low high = ap (λ (b : Bool). cond b (suc (below ls v)) zero) (le-ltb l v (high zero (omega arith) (omega arith)))
below_is (l ∷ ls) v (suc i) le low high =
    ap (λ (b : Bool). cond b (suc (below ls v)) zero) (lt-ltb l v (low zero (omega arith))) ∙ ap suc (below_is ls v i (omega arith) (λ k lt. low (suc k) (omega (arith, lt))) (λ k ge lt. high (suc k) (omega (arith, ge)) (omega (arith, lt))))

rises_at : (ls : List ℕ) → IsStrictlyIncreasing ls → (i j : ℕ) → i < j → j < length ls → get_or ls i 0 < get_or ls j 0
rises_at ls h i j lt le = AllPairs-from_increasing ls h i j 0 lt le

pub rises_or_same : (ls : List ℕ) → IsStrictlyIncreasing ls → (i j : ℕ) → i ≤ j → j < length ls → get_or ls i 0 ≤ get_or ls j 0
rises_or_same ls h i j le lt =
    elim (cases_lt i j) [
      | inl before ↦ (let r = rises_at ls h i j before lt in omega (arith, r))
      | inr same ↦ (let e : i ≡ j = omega (arith, le, same) in let r = ap (λ (k : ℕ). get_or ls k 0) e in omega (arith, r))
    ]

pub below_found : (ls : List ℕ) (v i : ℕ) → IsStrictlyIncreasing ls → i < length ls → get_or ls i 0 ≡ v → below ls v ≡ i
below_found ls v i h lt e =
    below_is ls v i (omega arith) (λ k before. (let r = rises_at ls h k i before lt in omega (arith, r, e))) (λ k after less. (let r = rises_or_same ls h i k after less in omega (arith, r, e)))

pub below_missing : (ls : List ℕ) (v i : ℕ) → i ≤ length ls → ((k : ℕ) → k < i → get_or ls k 0 < v) → ((k : ℕ) → i ≤ k → k < length ls → v < get_or ls k 0) → below ls v ≡ i
below_missing ls v i le low high = below_is ls v i le low (λ k after lt. (let r = high k after lt in omega (arith, r)))

-- the sorts of a list's places, one by one
pub reads_more : {X : Type 0} (xs : List X) (ls : List ℕ) (i x : ℕ) (s0 s1 : List X) → drop i ls ≡ x ∷ drop (i + 1) ls → s1 ≡ s0 ++ reads xs (x ∷ []) → s1 ++ reads xs (drop (i + 1) ls) ≡ s0 ++ reads xs (drop i ls)
reads_more xs ls i x s0 s1 e is =
    let rest = drop (i + 1) ls in
    ap (λ ys. ys ++ reads xs rest) is ∙ append_assoc s0 (reads xs (x ∷ [])) (reads xs rest) ∙ ap (λ ys. s0 ++ ys) (some_first (slice_get xs x) (reads xs rest)) ∙ ap (λ (ms : List ℕ). s0 ++ reads xs ms) (sym e)
  where
    some_first : {Y : Type 0} (o : Option Y) (ys : List Y) → with_some o [] ++ ys ≡ with_some o ys
    some_first None ys = refl
    some_first (Some y) ys = refl

-- lists with the same numbers
contains_listed : (ls : List ℕ) (k : ℕ) → Contains ls k → listed ls k ≡ true
contains_listed [] k h = let a = h.1 in absurd (omega (arith, a))
contains_listed (l ∷ ls) k h = contained l ls (λ x c. contains_listed ls x c) k h.0 h.1 h.2
  where
    contained : (m : ℕ) (ms : List ℕ) → ((x : ℕ) → Contains ms x → listed ms x ≡ true) → (x i : ℕ) → i < length (m ∷ ms) → get_or (m ∷ ms) i x ≡ x → listed (m ∷ ms) x ≡ true
    contained m ms others x zero lt e = or_left (m == x) (listed ms x) (eq-eqb m x e)
    contained m ms others x (suc i) lt e = or_right (m == x) (listed ms x) (others x (i, omega (arith, lt), e))

listed_contains : (ls : List ℕ) (k : ℕ) → listed ls k ≡ true → Contains ls k
listed_contains [] k h = absurd (false≢true h)
listed_contains (l ∷ ls) k h =
    elim (or_cases (l == k) (listed ls k) h) [
      | inl e ↦ (zero, omega arith, eqb-true l k e)
      | inr e ↦ (let c = listed_contains ls k e in let lt = c.1 in (suc c.0, omega (arith, lt), c.2))
    ]

pub same_listed : (xs ys : List ℕ) → ((k : ℕ) → Contains xs k → Contains ys k) → ((k : ℕ) → Contains ys k → Contains xs k) → (k : ℕ) → listed ys k ≡ listed xs k
same_listed xs ys to back k = both_true (listed ys k) (listed xs k) (λ h. contains_listed xs k (back k (listed_contains ys k h))) (λ h. contains_listed ys k (to k (listed_contains xs k h)))
  where
    both_true : (a b : Bool) → (a ≡ true → b ≡ true) → (b ≡ true → a ≡ true) → a ≡ b
    both_true true b f g = sym (f refl)
    both_true false true f g = g refl
    both_true false false f g = refl
