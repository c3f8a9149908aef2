-- What is kept under marks, and the numbers that variables get, step by step.
use Rattle.std.proofs.Common.{◌≡◌, ℕ, zero, suc, ◌+◌, ◌-◌, ◌<◌, ◌≤◌, Bool, true, false, ◌||◌, cond, inl, inr, List, [], ◌∷◌, ◌++◌, length, map, get_or, drop, ap, refl, sym, subst, ◌∙◌, arith, append_assoc, add-one}
use Rattle.std.proofs.lemmas.Bool.{cases_lt}
use Rattle.std.proofs.lemmas.List.{append-nil, drop_more, drop_all, get_or_past}
use Rattle.fm_base.specs.declared.ids.SortId.{SortId}
use Rattle.fm_base.specs.declared.formula.Fterm.{Fterm}
use Rattle.fm_nnf.specs.Lifting.{any_has, term_variables}
use Rattle.fm_nnf.specs.Marked.{Marks, dropped_of, marked, new_number, numbers_from}
use Rattle.fm_nnf.specs.Places.{Occurs, kept, later, place}
use Rattle.fm_nnf.proofs.Adding.{drop_read}

-- the test from a place on
abbrev pub from : Occurs → ℕ → Occurs
from p low k = p (low + k)

from_start : (p : Occurs) → from p 0 ≡ p
from_start p = λ i k. p (same k i)
  where
    same : (k : ℕ) → 0 + k ≡ k
    same k = omega arith

from_later : (p : Occurs) (low : ℕ) → later (from p low) ≡ from p (low + 1)
from_later p low = λ i k. p (same k i)
  where
    same : (k : ℕ) → low + suc k ≡ low + 1 + k
    same k = omega arith

same_zero : (p : Occurs) (low : ℕ) → from p low zero ≡ p low
same_zero p low = ap p (same low)
  where
    same : (k : ℕ) → k + 0 ≡ k
    same k = omega arith

pub kept_start : {X : Type 0} (p : Occurs) (xs : List X) → kept (from p 0) xs ≡ kept p xs
kept_start p xs = λ i. kept (from_start p i) xs

kept_at : {X : Type 0} (p : Occurs) (xs : List X) (i : ℕ) (x : X) → i < length xs → x ≡ get_or xs i x → kept (from p i) (drop i xs) ≡ cond (p i) (x ∷ kept (from p (i + 1)) (drop (i + 1) xs)) (kept (from p (i + 1)) (drop (i + 1) xs))
kept_at p xs i x lt e =
    let z = same_zero p i in
    let l = from_later p i in
    ap (kept (from p i)) (drop_read xs i x lt e) ∙ (λ j. cond (z j) (x ∷ kept (l j) (drop (i + 1) xs)) (kept (l j) (drop (i + 1) xs)))

pub kept_true : {X : Type 0} (p : Occurs) (xs : List X) (i : ℕ) (x : X) (made : List X) → i < length xs → x ≡ get_or xs i x → p i ≡ true → (made ++ x ∷ []) ++ kept (from p (i + 1)) (drop (i + 1) xs) ≡ made ++ kept (from p i) (drop i xs)
kept_true p xs i x made lt e h =
    append_assoc made (x ∷ []) (kept (from p (i + 1)) (drop (i + 1) xs))
    ∙ ap (λ b. made ++ cond b (x ∷ kept (from p (i + 1)) (drop (i + 1) xs)) (kept (from p (i + 1)) (drop (i + 1) xs))) (sym h)
    ∙ ap (λ ys. made ++ ys) (sym (kept_at p xs i x lt e))

pub kept_false : {X : Type 0} (p : Occurs) (xs : List X) (i : ℕ) (x : X) (made : List X) → i < length xs → x ≡ get_or xs i x → p i ≡ false → made ++ kept (from p (i + 1)) (drop (i + 1) xs) ≡ made ++ kept (from p i) (drop i xs)
kept_false p xs i x made lt e h =
    ap (λ b. made ++ cond b (x ∷ kept (from p (i + 1)) (drop (i + 1) xs)) (kept (from p (i + 1)) (drop (i + 1) xs))) (sym h)
    ∙ ap (λ ys. made ++ ys) (sym (kept_at p xs i x lt e))

pub kept_end : {X : Type 0} (p : Occurs) (xs : List X) (i : ℕ) (made : List X) → length xs ≤ i → made ≡ made ++ kept (from p i) (drop i xs)
kept_end p xs i made le = sym (append-nil made) ∙ ap (λ ys. made ++ kept (from p i) ys) (sym (drop_all i xs le))

-- what is read within a list doesn't depend on the default
pub read_again : {X : Type 0} (xs : List X) (i : ℕ) (d : X) → i < length xs → get_or xs i d ≡ get_or xs i (get_or xs i d)
read_again [] i d lt = absurd (omega arith)
read_again (x ∷ xs) zero d lt = refl
read_again (x ∷ xs) (suc i) d lt = within xs i d (get_or xs i d) (omega arith)
  where
    within : {X : Type 0} (ys : List X) (j : ℕ) (a b : X) → j < length ys → get_or ys j a ≡ get_or ys j b
    within [] j a b lt = absurd (omega arith)
    within (y ∷ ys) zero a b lt = refl
    within (y ∷ ys) (suc j) a b lt = within ys j a b (omega arith)

-- the variables are what stands at their own places
variables_long : (k : ℕ) (ss : List SortId) → length (term_variables k ss) ≡ length ss
variables_long k [] = refl
variables_long k (s ∷ ss) = ap suc (variables_long (suc k) ss)

variable_at : (k : ℕ) (ss : List SortId) (i : ℕ) (d : Fterm) → i < length ss → get_or (term_variables k ss) i d ≡ Fterm.Var (k + i)
variable_at k [] i d lt = absurd (omega arith)
variable_at k (s ∷ ss) zero d lt = let e : k ≡ k + 0 = omega arith in ap Fterm.Var e
variable_at k (s ∷ ss) (suc i) d lt = let e : suc k + i ≡ k + suc i = omega arith in variable_at (suc k) ss i d (omega arith) ∙ ap Fterm.Var e

pub variable_read : (ss : List SortId) (i : ℕ) → i < length ss → Fterm.Var i ≡ get_or (term_variables zero ss) i (Fterm.Var i)
variable_read ss i lt = let e : i ≡ zero + i = omega arith in ap Fterm.Var e ∙ sym (variable_at zero ss i (Fterm.Var i) lt)

pub variable_below : (ss : List SortId) (i : ℕ) → i < length ss → i < length (term_variables zero ss)
variable_below ss i lt = let l = variables_long zero ss in omega (arith, l, lt)

pub variables_end : (ss : List SortId) (i : ℕ) → length ss ≤ i → length (term_variables zero ss) ≤ i
variables_end ss i le = let l = variables_long zero ss in omega (arith, l, le)

pub own_step : (scope : List SortId) (i : ℕ) (made : List Fterm) → i < length scope → (made ++ Fterm.Var i ∷ []) ++ term_variables (i + 1) (drop (i + 1) scope) ≡ made ++ term_variables i (drop i scope)
own_step scope i made lt =
    let s : SortId = record { 0 = 0 } in
    append_assoc made (Fterm.Var i ∷ []) (term_variables (i + 1) (drop (i + 1) scope)) ∙ ap (λ (n : ℕ). made ++ Fterm.Var i ∷ term_variables n (drop (i + 1) scope)) (add-one i) ∙ ap (λ (ss : List SortId). made ++ term_variables i ss) (sym (drop_more scope i s lt))

-- new numbers are places
inside : (marks : List Bool) (n v d : ℕ) → v < length marks → get_or (numbers_from n marks) v d ≡ n + place (marked marks) v
unfolding place
inside [] n v d lt = absurd (omega arith)
inside (true ∷ ms) n zero d lt = omega arith
inside (false ∷ ms) n zero d lt = omega arith
inside (true ∷ ms) n (suc v) d lt = let e : n + 1 + place (marked ms) v ≡ n + suc (place (marked ms) v) = omega arith in inside ms (n + 1) v d (omega arith) ∙ e
inside (false ∷ ms) n (suc v) d lt = inside ms n v d (omega arith)

all_places : (v : ℕ) → place (λ k. true) v ≡ v
unfolding place
all_places zero = refl
all_places (suc v) = ap suc (all_places v)

outside : (marks : List Bool) (v : ℕ) → length marks ≤ v → place (marked marks) v + dropped_of marks ≡ v
unfolding place
outside [] v le = let e = all_places v in omega (arith, e)
outside (m ∷ ms) zero le = absurd (omega arith)
outside (true ∷ ms) (suc v) le = let e = outside ms v (omega arith) in omega (arith, e)
outside (false ∷ ms) (suc v) le = let e = outside ms v (omega arith) in omega (arith, e)

numbers_long : (n : ℕ) (marks : List Bool) → length (numbers_from n marks) ≡ length marks
numbers_long n [] = refl
numbers_long n (true ∷ ms) = ap suc (numbers_long (n + 1) ms)
numbers_long n (false ∷ ms) = ap suc (numbers_long n ms)

pub number_is_place : (marks : List Bool) (v : ℕ) → new_number (numbers_from 0 marks) (dropped_of marks) v ≡ place (marked marks) v
number_is_place marks v =
    elim (cases_lt v (length marks)) [
      | inl lt ↦ inside marks 0 v (v - dropped_of marks) lt ∙ omega arith
      | inr le ↦ let l = numbers_long 0 marks in let o = outside marks v le in let e : v - dropped_of marks ≡ place (marked marks) v = omega (arith, o) in get_or_past (numbers_from 0 marks) v (v - dropped_of marks) (omega (arith, l, le)) ∙ e
    ]

pub numbers_are_places : (marks : List Bool) → new_number (numbers_from 0 marks) (dropped_of marks) ≡ place (marked marks)
numbers_are_places marks = λ i v. number_is_place marks v i

-- marks
pub marks_nothing : (old : List Bool) → Marks (λ k. false) old old
marks_nothing old k = refl

or_swap : (l r o : Bool) → (r || (l || o)) ≡ ((l || r) || o)
or_swap true true o = refl
or_swap true false o = refl
or_swap false true o = refl
or_swap false false o = refl

pub marks_both : (p q : Occurs) (a b c : List Bool) → Marks p a b → Marks q b c → Marks (λ k. p k || q k) a c
marks_both p q a b c one two k = two k ∙ ap (λ x. q k || x) (one k) ∙ or_swap (p k) (q k) (marked a k)

pub marks_more : {X : Type 0} (f : X → Occurs) (xs : List X) (i : ℕ) (x : X) → i < length xs → x ≡ get_or xs i x → (a b c : List Bool) → Marks (f x) a b → Marks (any_has (map f (drop (i + 1) xs))) b c → Marks (any_has (map f (drop i xs))) a c
marks_more f xs i x lt e a b c one two = subst (λ ys. Marks (any_has (map f ys)) a c) (sym (drop_read xs i x lt e)) (marks_both (f x) (any_has (map f (drop (i + 1) xs))) a b c one two)

pub marks_end : {X : Type 0} (f : X → Occurs) (xs : List X) (i : ℕ) → length xs ≤ i → (a : List Bool) → Marks (any_has (map f (drop i xs))) a a
marks_end f xs i le a = subst (λ ys. Marks (any_has (map f ys)) a a) (sym (drop_all i xs le)) (marks_nothing a)
