-- The step from a tuple to the next one: what it passes over, and that it comes to an end.
use Rattle.std.proofs.Common.{◌≡◌, ℕ, suc, ◌+◌, ◌-◌, ◌*◌, ◌<◌, ◌≤◌, Bool, true, false, List, [], ◌∷◌, ◌⊎◌, inl, inr, ap, refl, subst, sym, ◌∙◌, arith, rules}
use Rattle.std.specs.Prelude.{nat_lt, cond, Option, Some, None}
use Rattle.std.specs.Cmp.Lexicographic.{slice_cmp}
use Rattle.std.specs.Ordering.{nat_cmp, is_lt, ordering_then}
use Rattle.std.specs.declared.cmp.Ordering.{Ordering}
use Rattle.std.proofs.lemmas.Bool.{and_parts, and_from, false≢true, cases_order}
use Rattle.std.proofs.Math.Nat.{suc-mul}
use Rattle.fm_base.specs.Interpretations.{Reading}
use Rattle.fm_base.specs.Models.{IsElements}
use Rattle.fm_base.specs.declared.ids.SortId.{SortId}
use Rattle.fm_truth.specs.Failing.{precedes}
use Rattle.fm_truth.specs.Tuples.{zeros, have_elements, moved, next_of}

lesser_first : (y x : ℕ) (zs xs : List ℕ) → y < x → precedes (y ∷ zs) (x ∷ xs) ≡ true
lesser_first y x zs xs lt = let e : nat_cmp y x ≡ Ordering.Less = search rules in ap (λ o. is_lt (ordering_then o (slice_cmp nat_cmp zs xs))) e

greater_first : (y x : ℕ) (zs xs : List ℕ) → x < y → precedes (y ∷ zs) (x ∷ xs) ≡ false
greater_first y x zs xs lt = let e : nat_cmp y x ≡ Ordering.Greater = search rules in ap (λ o. is_lt (ordering_then o (slice_cmp nat_cmp zs xs))) e

same_first : (x : ℕ) (zs xs : List ℕ) → precedes (x ∷ zs) (x ∷ xs) ≡ precedes zs xs
same_first x zs xs = let e : nat_cmp x x ≡ Ordering.Equal = search rules in ap (λ o. is_lt (ordering_then o (slice_cmp nat_cmp zs xs))) e

precedes_cases : (y x : ℕ) (zs xs : List ℕ) → precedes (y ∷ zs) (x ∷ xs) ≡ true → (y < x) ⊎ ((y ≡ x) × (precedes zs xs ≡ true))
precedes_cases y x zs xs e =
    elim (cases_order y x) [
      | inl same ↦ inr (same, sym (same_first x zs xs) ∙ subst (λ v. precedes (v ∷ zs) (x ∷ xs) ≡ true) same e)
      | inr other ↦ elim other [
        | inl lesser ↦ inl lesser
        | inr greater ↦ absurd (false≢true (sym (greater_first y x zs xs greater) ∙ e))
      ]
    ]

-- a tuple that isn't behind another
abbrev pub Reached : List ℕ → List ℕ → Type 0
Reached other xs = (precedes other xs ≡ true) ⊎ (other ≡ xs)

reached_more : (y x : ℕ) (zs xs : List ℕ) → y ≤ x → Reached zs xs → Reached (y ∷ zs) (x ∷ xs)
reached_more y x zs xs le h =
    elim (cases_order y x) [
      | inl same ↦ elim h [
        | inl before ↦ inl (subst (λ v. precedes (v ∷ zs) (x ∷ xs) ≡ true) (sym same) (same_first x zs xs ∙ before))
        | inr equal ↦ inr (ap (λ v. v ∷ zs) same ∙ ap (λ l. x ∷ l) equal)
      ]
      | inr other ↦ elim other [
        | inl lesser ↦ inl (lesser_first y x zs xs lesser)
        | inr greater ↦ absurd (omega (arith, le, greater))
      ]
    ]

-- what a step leads to: a tuple of elements with none between, or nothing where none is left
abbrev pub IsBehind : Reading → List SortId → List ℕ → Option (List ℕ) → Type 0
IsBehind m ss xs None = (other : List ℕ) → IsElements m ss other → Reached other xs
IsBehind m ss xs (Some ys) = IsElements m ss ys × ((other : List ℕ) → IsElements m ss other → precedes other ys ≡ true → Reached other xs)

pub zeros_are_elements : (m : Reading) (ss : List SortId) → have_elements m ss ≡ true → IsElements m ss (zeros ss)
zeros_are_elements m [] e = tt
zeros_are_elements m (s ∷ ss) e =
    let parts = and_parts (nat_lt 0 (m.size s.0)) (have_elements m ss) e in
    (search (rules, parts.0), zeros_are_elements m ss parts.1)

pub elements_exist : (m : Reading) (ss : List SortId) (xs : List ℕ) → IsElements m ss xs → have_elements m ss ≡ true
elements_exist m [] xs t = refl
elements_exist m (s ∷ ss) [] t = absurd t
elements_exist m (s ∷ ss) (x ∷ xs) t =
    let some : 0 < m.size s.0 = omega (arith, t.0) in
    and_from (nat_lt 0 (m.size s.0)) (have_elements m ss) (search (rules, some)) (elements_exist m ss xs t.1)

pub none_before_zeros : (m : Reading) (ss : List SortId) (other : List ℕ) → IsElements m ss other → precedes other (zeros ss) ≡ true → ⊥
none_before_zeros m [] [] t e = false≢true e
none_before_zeros m [] (y ∷ ys) t e = absurd t
none_before_zeros m (s ∷ ss) [] t e = absurd t
none_before_zeros m (s ∷ ss) (y ∷ ys) t e =
    elim (precedes_cases y 0 ys (zeros ss) e) [
      | inl lesser ↦ omega (arith, lesser)
      | inr same ↦ none_before_zeros m ss ys t.1 same.1
    ]

-- the number turns over: it grows, or it was the last
turn_other : (m : Reading) (s : SortId) (ss : List SortId) (x : ℕ) (xs : List ℕ) → IsBehind m ss xs None → (other : List ℕ) → IsElements m (s ∷ ss) other → precedes other ((x + 1) ∷ zeros ss) ≡ true → Reached other (x ∷ xs)
turn_other m s ss x xs h [] t e = absurd t
turn_other m s ss x xs h (y ∷ ys) t e =
    elim (precedes_cases y (x + 1) ys (zeros ss) e) [
      | inl lesser ↦ reached_more y x ys xs (omega (arith, lesser)) (h ys t.1)
      | inr same ↦ absurd (none_before_zeros m ss ys t.1 same.1)
    ]

last_other : (m : Reading) (s : SortId) (ss : List SortId) (x : ℕ) (xs : List ℕ) → m.size s.0 ≤ x + 1 → IsBehind m ss xs None → (other : List ℕ) → IsElements m (s ∷ ss) other → Reached other (x ∷ xs)
last_other m s ss x xs le h [] t = absurd t
last_other m s ss x xs le h (y ∷ ys) t = reached_more y x ys xs (omega (arith, le, t.0)) (h ys t.1)

behind_turn : (m : Reading) (s : SortId) (ss : List SortId) (x : ℕ) (xs : List ℕ) → IsElements m ss xs → IsBehind m ss xs None → (b : Bool) → nat_lt (x + 1) (m.size s.0) ≡ b → IsBehind m (s ∷ ss) (x ∷ xs) (cond b (Some ((x + 1) ∷ zeros ss)) None)
behind_turn m s ss x xs t h true e =
    let grows : x + 1 < m.size s.0 = search (rules, e) in
    ((grows, zeros_are_elements m ss (elements_exist m ss xs t)), turn_other m s ss x xs h)
behind_turn m s ss x xs t h false e =
    let ends : m.size s.0 ≤ x + 1 = search (rules, e) in
    last_other m s ss x xs ends h

go_on_other : (m : Reading) (s : SortId) (ss : List SortId) (x : ℕ) (xs ys : List ℕ) → IsBehind m ss xs (Some ys) → (other : List ℕ) → IsElements m (s ∷ ss) other → precedes other (x ∷ ys) ≡ true → Reached other (x ∷ xs)
go_on_other m s ss x xs ys h [] t e = absurd t
go_on_other m s ss x xs ys h (z ∷ zs) t e =
    elim (precedes_cases z x zs ys e) [
      | inl lesser ↦ inl (lesser_first z x zs xs lesser)
      | inr same ↦ reached_more z x zs xs (omega (arith, same.0)) (h.1 zs t.1 same.1)
    ]

behind_more : (m : Reading) (s : SortId) (ss : List SortId) (x : ℕ) (xs : List ℕ) → IsElements m (s ∷ ss) (x ∷ xs) → (o : Option (List ℕ)) → IsBehind m ss xs o → IsBehind m (s ∷ ss) (x ∷ xs) (moved (m.size s.0) ss x o)
behind_more m s ss x xs t None h = behind_turn m s ss x xs t.1 h (nat_lt (x + 1) (m.size s.0)) refl
behind_more m s ss x xs t (Some ys) h = ((t.0, h.0), go_on_other m s ss x xs ys h)

only_one : (m : Reading) (other : List ℕ) → IsElements m [] other → Reached other []
only_one m [] t = inr refl
only_one m (y ∷ ys) t = absurd t

pub next_is_behind : (m : Reading) (ss : List SortId) (xs : List ℕ) → IsElements m ss xs → IsBehind m ss xs (next_of m ss xs)
next_is_behind m [] [] t = only_one m
next_is_behind m [] (x ∷ xs) t = absurd t
next_is_behind m (s ∷ ss) [] t = absurd t
next_is_behind m (s ∷ ss) (x ∷ xs) t = behind_more m s ss x xs t (next_of m ss xs) (next_is_behind m ss xs t.1)

-- how many tuples there are, and how many are left
abbrev pub count : Reading → List SortId → ℕ
count m [] = 1
count m (s ∷ ss) = m.size s.0 * count m ss

abbrev pub left_from : Reading → List SortId → List ℕ → ℕ
left_from m [] xs = 1
left_from m (s ∷ ss) [] = 1
left_from m (s ∷ ss) (x ∷ xs) = (m.size s.0 - (x + 1)) * count m ss + left_from m ss xs

abbrev pub left : Reading → List SortId → Option (List ℕ) → ℕ
left m ss None = 0
left m ss (Some xs) = left_from m ss xs

some_left : (m : Reading) (ss : List SortId) (xs : List ℕ) → 0 < left_from m ss xs
some_left m [] xs = omega arith
some_left m (s ∷ ss) [] = omega arith
some_left m (s ∷ ss) (x ∷ xs) = omega (arith, some_left m ss xs)

once_less : (n c : ℕ) → 0 < n → (n - 1) * c + c ≡ n * c
once_less n c lt = let e : n ≡ suc (n - 1) = omega arith in sym (ap (λ k. k * c) e ∙ suc-mul (n - 1) c)

all_left : (m : Reading) (ss : List SortId) → have_elements m ss ≡ true → left_from m ss (zeros ss) ≡ count m ss
all_left m [] e = refl
all_left m (s ∷ ss) e =
    let parts = and_parts (nat_lt 0 (m.size s.0)) (have_elements m ss) e in
    let some : 0 < m.size s.0 = search (rules, parts.0) in
    ap (λ k. (m.size s.0 - 1) * count m ss + k) (all_left m ss parts.1) ∙ once_less (m.size s.0) (count m ss) some

fewer_turn : (m : Reading) (s : SortId) (ss : List SortId) (x : ℕ) (xs : List ℕ) → IsElements m ss xs → (b : Bool) → nat_lt (x + 1) (m.size s.0) ≡ b → left m (s ∷ ss) (cond b (Some ((x + 1) ∷ zeros ss)) None) < left_from m (s ∷ ss) (x ∷ xs)
fewer_turn m s ss x xs t true e =
    let grows : x + 1 < m.size s.0 = search (rules, e) in
    let n : ℕ = m.size s.0 - (x + 1) in
    let same : m.size s.0 - (x + 1 + 1) ≡ n - 1 = omega arith in
    let whole : left_from m ss (zeros ss) ≡ count m ss = all_left m ss (elements_exist m ss xs t) in
    let step : (n - 1) * count m ss + count m ss ≡ n * count m ss = once_less n (count m ss) (omega (arith, grows)) in
    let now : (m.size s.0 - (x + 1 + 1)) * count m ss + left_from m ss (zeros ss) ≡ n * count m ss = ap (λ k. k * count m ss + left_from m ss (zeros ss)) same ∙ ap (λ k. (n - 1) * count m ss + k) whole ∙ step in
    omega (arith, now, some_left m ss xs)
fewer_turn m s ss x xs t false e = some_left m (s ∷ ss) (x ∷ xs)

fewer_more : (m : Reading) (s : SortId) (ss : List SortId) (x : ℕ) (xs : List ℕ) → IsElements m ss xs → (o : Option (List ℕ)) → left m ss o < left_from m ss xs → left m (s ∷ ss) (moved (m.size s.0) ss x o) < left_from m (s ∷ ss) (x ∷ xs)
fewer_more m s ss x xs t None h = fewer_turn m s ss x xs t (nat_lt (x + 1) (m.size s.0)) refl
fewer_more m s ss x xs t (Some ys) h = omega (arith, h)

pub fewer_left : (m : Reading) (ss : List SortId) (xs : List ℕ) → IsElements m ss xs → left m ss (next_of m ss xs) < left_from m ss xs
fewer_left m [] xs t = omega arith
fewer_left m (s ∷ ss) [] t = absurd t
fewer_left m (s ∷ ss) (x ∷ xs) t = fewer_more m s ss x xs t.1 (next_of m ss xs) (fewer_left m ss xs t.1)
