-- The marks of the open levels stand in order.
use Rattle.std.proofs.Common.{◌≡◌, ℕ, zero, suc, ◌<◌, ◌≤◌, List, [], ◌∷◌, ◌++◌, length, take, inl, inr, refl, sym, subst, arith, get_or}
use Rattle.std.specs.List.{All}
use Rattle.std.proofs.lemmas.Bool.{cases_lt}
use Rattle.std.proofs.lemmas.List.{get_or-take, length_push}
use Rattle.fm_cong.specs.Levels.{IsBefore}
use Rattle.fm_cong.specs.declared.mark.Mark.{Mark}

abbrev pub AreOrdered : List Mark → Type 0
AreOrdered marks = (i j : ℕ) (d : Mark) → i ≤ j → j < length marks → IsBefore (get_or marks i d) (get_or marks j d)

pub push_old : {X : Type 0} → (xs : List X) (x : X) (k : ℕ) (d : X) → k < length xs → get_or (xs ++ x ∷ []) k d ≡ get_or xs k d
push_old [] x k d lt = absurd (omega (arith, lt))
push_old (y ∷ xs) x zero d lt = refl
push_old (y ∷ xs) x (suc k) d lt = push_old xs x k d (omega (arith, lt))

pub push_new : {X : Type 0} → (xs : List X) (x : X) (k : ℕ) (d : X) → k ≡ length xs → get_or (xs ++ x ∷ []) k d ≡ x
push_new [] x zero d e = refl
push_new [] x (suc k) d e = absurd (omega (arith, e))
push_new (y ∷ xs) x zero d e = absurd (omega (arith, e))
push_new (y ∷ xs) x (suc k) d e = push_new xs x k d (omega (arith, e))

pub self_before : (m : Mark) → IsBefore m m
self_before m = record { class = omega arith; next = omega arith; size = omega arith; links = omega arith; table = omega arith; facts = omega arith }

pub ordered_push : (marks : List Mark) (m : Mark) → AreOrdered marks → All (λ e. IsBefore e m) marks → AreOrdered (marks ++ m ∷ [])
ordered_push marks m o all i j d le lt =
    let long = length_push marks m in
    elim (cases_lt j (length marks)) [
      | inl lj ↦
          let a = push_old marks m i d (omega (arith, le, lj)) in
          let b = push_old marks m j d lj in
          subst (λ x. IsBefore x (get_or (marks ++ m ∷ []) j d)) (sym a) (subst (λ y. IsBefore (get_or marks i d) y) (sym b) (o i j d le lj))
      | inr past ↦
          let b = push_new marks m j d (omega (arith, past, lt, long)) in
          elim (cases_lt i (length marks)) [
            | inl li ↦ subst (λ x. IsBefore x (get_or (marks ++ m ∷ []) j d)) (sym (push_old marks m i d li)) (subst (λ y. IsBefore (get_or marks i d) y) (sym b) (all i d li))
            | inr ti ↦ subst (λ x. IsBefore x (get_or (marks ++ m ∷ []) j d)) (sym (push_new marks m i d (omega (arith, ti, le, past, lt, long)))) (subst (λ y. IsBefore m y) (sym b) (self_before m))
          ]
    ]

pub bounds : {X : Type 0} → (xs : List X) (n k : ℕ) → k < length (take n xs) → (k < n) × (k < length xs)
bounds [] zero k a = absurd (omega (arith, a))
bounds [] (suc n) k a = absurd (omega (arith, a))
bounds (x ∷ xs) zero k a = absurd (omega (arith, a))
bounds (x ∷ xs) (suc n) zero a = (omega arith, omega arith)
bounds (x ∷ xs) (suc n) (suc k) a = let r = bounds xs n k (omega (arith, a)) in (omega (arith, r.0), omega (arith, r.1))

pub ordered_take : (marks : List Mark) (n : ℕ) → AreOrdered marks → AreOrdered (take n marks)
ordered_take marks n o i j d le lt =
    let b = bounds marks n j lt in
    let p = get_or-take n marks i d (omega (arith, le, b.0)) in
    let q = get_or-take n marks j d b.0 in
    subst (λ x. IsBefore x (get_or (take n marks) j d)) (sym p) (subst (λ y. IsBefore (get_or marks i d) y) (sym q) (o i j d le b.1))

-- each mark below a level is before that of the level
pub all_before : (marks : List Mark) (n : ℕ) (m : Mark) → AreOrdered marks → n < length marks → ((d : Mark) → m ≡ get_or marks n d) → All (λ e. IsBefore e m) (take n marks)
all_before marks n m o ln at k d lt =
    let b = bounds marks n k lt in
    let p = get_or-take n marks k d b.0 in
    subst (λ x. IsBefore x m) (sym p) (subst (λ y. IsBefore (get_or marks k d) y) (sym (at d)) (o k n d (omega (arith, b.0)) ln))

-- what holds of each mark below, where an undo keeps it
pub all_both : (P Q R : Mark → Type 0) → ((m : Mark) → P m → Q m → R m) → (xs : List Mark) → All P xs → All Q xs → All R xs
all_both P Q R f xs p q k d lt = f (get_or xs k d) (p k d lt) (q k d lt)
