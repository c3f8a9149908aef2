-- By classes and marks the new representatives are those of the round.
use Rattle.std.proofs.Common.{◌≡◌, ℕ, ◌+◌, ◌<◌, Bool, true, false, ◌&&◌, ◌||◌, not, cond, List, [], ◌∷◌, length, refl, sym, ap, ◌∙◌, arith, inl, inr}
use Rattle.std.specs.Prelude.{◌==◌}
use Rattle.std.specs.List.{filter, list_any, range_with_len}
use Rattle.fm_bank.specs.Closure.{object}
use Rattle.fm_base.specs.Resolution.{Has}
use Rattle.fm_bank.specs.Subterms.{is_found as has}
use Rattle.fm_rounds.specs.Rounds.{Content, is_new, joins}
use Rattle.fm_build.specs.Marks.{class_at, has_class, has_marked, is_marked, is_new_by, new_by}
use Rattle.fm_rounds.proofs.Members.{in_range}

fuse : (p q : ℕ → Bool) (x : ℕ) (xs : List ℕ) (b : Bool) → list_any p (filter q xs) ≡ list_any (λ m. q m && p m) xs → list_any p (cond b (x ∷ filter q xs) (filter q xs)) ≡ ((b && p x) || list_any (λ m. q m && p m) xs)
fuse p q x xs true e = ap (λ b. p x || b) e
fuse p q x xs false e = e

any_filter : (p q : ℕ → Bool) (xs : List ℕ) → list_any p (filter q xs) ≡ list_any (λ m. q m && p m) xs
any_filter p q [] = refl
any_filter p q (x ∷ xs) = fuse p q x xs (q x) (any_filter p q xs)

any_alike : (p q : ℕ → Bool) (xs : List ℕ) → ((x : ℕ) → Has xs x → p x ≡ q x) → list_any p xs ≡ list_any q xs
any_alike p q [] h = refl
any_alike p q (x ∷ xs) h = let one = h x (inl refl) in let rest = any_alike p q xs (λ y i. h y (inr i)) in λ i. one i || rest i

filter_alike : (p q : ℕ → Bool) (xs : List ℕ) → ((x : ℕ) → Has xs x → p x ≡ q x) → filter p xs ≡ filter q xs
filter_alike p q [] h = refl
filter_alike p q (x ∷ xs) h = let one = h x (inl refl) in let rest = filter_alike p q xs (λ y i. h y (inr i)) in λ i. cond (one i) (x ∷ rest i) (rest i)

module _ (c : Content) (class : List ℕ) (marks : List Bool) (reps over : List ℕ) (same_is : (a b : ℕ) → a < length c.terms → b < length c.terms → c.same (object a) (object b) ≡ (class_at class a == class_at class b))
    (marked : (n : ℕ) → n < length c.terms → is_marked marks n ≡ has over n) (within : (n : ℕ) → Has reps n → n < length c.terms) where
  below : {n : ℕ} → n < 0 + length c.terms → n < length c.terms
  below h = omega (arith, h)

  both : (m n : ℕ) → n < length c.terms → m < 0 + n → (has over m && c.same (object m) (object n)) ≡ (is_marked marks m && (class_at class m == class_at class n))
  both m n lt less =
      let low : m < length c.terms = omega (arith, less, lt) in
      let here = sym (marked m low) in
      let there = same_is m n low lt in
      λ i. here i && there i

  one_alike : (n : ℕ) → n < length c.terms → is_new c reps over n ≡ is_new_by class marks reps n
  one_alike n lt =
      let k = class_at class n in
      let old : joins c reps n ≡ has_class class reps k = any_alike (λ m. c.same (object m) (object n)) (λ m. class_at class m == k) reps (λ m i. same_is m n (within m i) lt) in
      let before : joins c (filter (has over) (range_with_len 0 n)) n ≡ has_marked class marks (range_with_len 0 n) k = any_filter (λ m. c.same (object m) (object n)) (has over) (range_with_len 0 n) ∙ any_alike (λ m. has over m && c.same (object m) (object n)) (λ m. is_marked marks m && (class_at class m == k)) (range_with_len 0 n) (λ m i. both m n lt (in_range m 0 n i).1) in
      let here = sym (marked n lt) in
      λ i. here i && (not (old i) && not (before i))

  pub new_is : filter (is_new c reps over) (range_with_len 0 (length c.terms)) ≡ new_by class marks reps (length c.terms)
  new_is = filter_alike (is_new c reps over) (is_new_by class marks reps) (range_with_len 0 (length c.terms)) (λ n i. one_alike n (below (in_range n 0 (length c.terms) i).1))
