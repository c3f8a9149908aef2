-- What holds of every number below n, or of some; and a block of quantifiers, tuple by tuple.
use Rattle.std.proofs.Common.{◌≡◌, ℕ, zero, suc, ◌+◌, ◌<◌, Bool, true, false, ◌&&◌, ◌||◌, List, [], ◌∷◌, ◌++◌, ◌⊎◌, inl, inr, refl, subst, sym, arith, append_assoc, add-one}
use Rattle.std.proofs.lemmas.Bool.{and_parts, and_from, or_cases, or_left, or_right, cases_lt, false≢true}
use Rattle.std.proofs.lemmas.List.{append-nil}
use Rattle.fm_base.specs.Interpretations.{Reading}
use Rattle.fm_base.specs.Truth.{all_below, any_below, block}
use Rattle.fm_base.specs.Models.{IsElements}
use Rattle.fm_base.specs.declared.ids.SortId.{SortId}

pub last_or_below : (n k : ℕ) → k < suc n → (k < n) ⊎ (k ≡ n)
last_or_below n k lt = elim (cases_lt k n) [ inl h ↦ inl h | inr h ↦ inr (omega arith) ]

pub all_below-at : (n : ℕ) (p : ℕ → Bool) → all_below n p ≡ true → (k : ℕ) → k < n → p k ≡ true
unfolding all_below
all_below-at zero p e k lt = absurd (omega arith)
all_below-at (suc n) p e k lt =
    let h = and_parts (all_below n p) (p n) e in
    elim (last_or_below n k lt) [ inl below ↦ all_below-at n p h.0 k below | inr same ↦ subst (λ i. p i ≡ true) (sym same) h.1 ]

pub all_below-from : (n : ℕ) (p : ℕ → Bool) → ((k : ℕ) → k < n → p k ≡ true) → all_below n p ≡ true
unfolding all_below
all_below-from zero p h = refl
all_below-from (suc n) p h = and_from (all_below n p) (p n) (all_below-from n p (λ k lt. h k (omega arith))) (h n (omega arith))

pub any_below-at : (n : ℕ) (p : ℕ → Bool) → any_below n p ≡ true → (k : ℕ) × (k < n) × (p k ≡ true)
unfolding any_below
any_below-at zero p e = absurd (false≢true e)
any_below-at (suc n) p e =
    elim (or_cases (any_below n p) (p n) e) [
      | inl h ↦ let found = any_below-at n p h in (found.0, omega (arith, found.1), found.2)
      | inr h ↦ (n, omega arith, h)
    ]

pub any_below-from : (n : ℕ) (p : ℕ → Bool) (k : ℕ) → k < n → p k ≡ true → any_below n p ≡ true
unfolding any_below
any_below-from zero p k lt h = absurd (omega arith)
any_below-from (suc n) p k lt h =
    elim (last_or_below n k lt) [
      | inl below ↦ or_left (any_below n p) (p n) (any_below-from n p k below h)
      | inr same ↦ or_right (any_below n p) (p n) (subst (λ i. p i ≡ true) same h)
    ]

pub every_tuple : (m : Reading) (sorts : List SortId) (body : List ℕ → Bool) (env : List ℕ) → block m true sorts body env ≡ true → (xs : List ℕ) → IsElements m sorts xs → body (env ++ xs) ≡ true
every_tuple m [] body env e [] t = rw append-nil e
every_tuple m [] body env e (x ∷ xs) t = absurd t
every_tuple m (s ∷ ss) body env e [] t = absurd t
every_tuple m (s ∷ ss) body env e (x ∷ xs) t =
    let inner = all_below-at (m.size s.0) (λ y. block m true ss body (env ++ y ∷ [])) e x t.0 in
    subst (λ (ys : List ℕ). body ys ≡ true) (append_assoc env (x ∷ []) xs) (every_tuple m ss body (env ++ x ∷ []) inner xs t.1)

pub from_every_tuple : (m : Reading) (sorts : List SortId) (body : List ℕ → Bool) (env : List ℕ) → ((xs : List ℕ) → IsElements m sorts xs → body (env ++ xs) ≡ true) → block m true sorts body env ≡ true
from_every_tuple m [] body env h = subst (λ (ys : List ℕ). body ys ≡ true) (append-nil env) (h [] tt)
from_every_tuple m (s ∷ ss) body env h =
    all_below-from (m.size s.0) (λ y. block m true ss body (env ++ y ∷ [])) (λ x lt. from_every_tuple m ss body (env ++ x ∷ []) (λ xs t. subst (λ (ys : List ℕ). body ys ≡ true) (sym (append_assoc env (x ∷ []) xs)) (h (x ∷ xs) (lt, t))))

pub some_tuple : (m : Reading) (sorts : List SortId) (body : List ℕ → Bool) (env : List ℕ) → block m false sorts body env ≡ true → (xs : List ℕ) × IsElements m sorts xs × (body (env ++ xs) ≡ true)
some_tuple m [] body env e = ([], tt, rw append-nil e)
some_tuple m (s ∷ ss) body env e =
    let found = any_below-at (m.size s.0) (λ y. block m false ss body (env ++ y ∷ [])) e in
    let rest = some_tuple m ss body (env ++ found.0 ∷ []) found.2 in
    (found.0 ∷ rest.0, (found.1, rest.1), subst (λ (ys : List ℕ). body ys ≡ true) (append_assoc env (found.0 ∷ []) rest.0) rest.2)

pub from_some_tuple : (m : Reading) (sorts : List SortId) (body : List ℕ → Bool) (env : List ℕ) (xs : List ℕ) → IsElements m sorts xs → body (env ++ xs) ≡ true → block m false sorts body env ≡ true
from_some_tuple m [] body env [] t h = subst (λ (ys : List ℕ). body ys ≡ true) (append-nil env) h
from_some_tuple m [] body env (x ∷ xs) t h = absurd t
from_some_tuple m (s ∷ ss) body env [] t h = absurd t
from_some_tuple m (s ∷ ss) body env (x ∷ xs) t h =
    any_below-from (m.size s.0) (λ y. block m false ss body (env ++ y ∷ [])) x t.0 (from_some_tuple m ss body (env ++ x ∷ []) xs t.1 (subst (λ (ys : List ℕ). body ys ≡ true) (sym (append_assoc env (x ∷ []) xs)) h))
