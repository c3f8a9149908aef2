-- One more line and one more step of a block.
use Rattle.std.proofs.Common.{◌≡◌, ℕ, zero, suc, ◌+◌, List, [], ◌∷◌, ◌++◌, ap, refl, sym, subst, ◌∙◌, arith, add-zero, zero-add, append_assoc}
use Rattle.fm_cert.specs.Lines.{at_most}
use Rattle.fm_bank.specs.declared.literal.Literal.{Literal}
use Rattle.fm_cert.specs.declared.block.Line.{Line}
use Rattle.fm_thin.specs.Certified.{orders, zero_steps}

pub orders-none : (s : ℕ) → orders s 0 ≡ []
unfolding orders
orders-none s = refl

pub orders-more : (s n : ℕ) → orders s (n + 1) ≡ orders s n ++ Line.OrderZero (record { 0 = s + n }) ∷ []
unfolding orders
orders-more s zero = rw add-zero refl
orders-more s (suc n) =
    let same : s + 1 + n ≡ s + suc n = omega arith in
    let here : orders (s + 1) (n + 1) ≡ orders (s + 1) n ++ Line.OrderZero (record { 0 = s + suc n }) ∷ [] = subst (λ (k : ℕ). orders (s + 1) (n + 1) ≡ orders (s + 1) n ++ Line.OrderZero (record { 0 = k }) ∷ []) same (orders-more (s + 1) n) in
    let next : orders s (suc (n + 1)) ≡ orders s (suc n) ++ Line.OrderZero (record { 0 = s + suc n }) ∷ [] = ap (λ (ls : List Line). Line.OrderZero (record { 0 = s }) ∷ ls) here in
    let more : suc (n + 1) ≡ suc n + 1 = omega arith in
    subst (λ (k : ℕ). orders s k ≡ orders s (suc n) ++ Line.OrderZero (record { 0 = s + suc n }) ∷ []) more next

pub zero_steps-none : (s : ℕ) → zero_steps s 0 ≡ []
unfolding zero_steps
zero_steps-none s = refl

pub zero_steps-more : (s n : ℕ) → zero_steps s (n + 1) ≡ zero_steps s n ++ (at_most (s + n) 0, s + n + 1) ∷ []
unfolding zero_steps
zero_steps-more s zero = rw add-zero refl
zero_steps-more s (suc n) =
    let same : s + 1 + n ≡ s + suc n = omega arith in
    let here : zero_steps (s + 1) (n + 1) ≡ zero_steps (s + 1) n ++ (at_most (s + suc n) 0, s + suc n + 1) ∷ [] = subst (λ (k : ℕ). zero_steps (s + 1) (n + 1) ≡ zero_steps (s + 1) n ++ (at_most k 0, k + 1) ∷ []) same (zero_steps-more (s + 1) n) in
    let next : zero_steps s (suc (n + 1)) ≡ zero_steps s (suc n) ++ (at_most (s + suc n) 0, s + suc n + 1) ∷ [] = ap (λ (ls : List (Literal × ℕ)). (at_most s 0, s + 1) ∷ ls) here in
    let more : suc (n + 1) ≡ suc n + 1 = omega arith in
    subst (λ (k : ℕ). zero_steps s k ≡ zero_steps s (suc n) ++ (at_most (s + suc n) 0, s + suc n + 1) ∷ []) more next

-- one turn of a loop that pushes them
pub push_order : (start now next : List Line) (n : ℕ) → next ≡ now ++ Line.OrderZero (record { 0 = n }) ∷ [] → now ≡ start ++ orders 0 n → next ≡ start ++ orders 0 (n + 1)
push_order start now next n e f =
    let more : orders 0 (n + 1) ≡ orders 0 n ++ Line.OrderZero (record { 0 = n }) ∷ [] = subst (λ (k : ℕ). orders 0 (n + 1) ≡ orders 0 n ++ Line.OrderZero (record { 0 = k }) ∷ []) (zero-add n) (orders-more 0 n) in
    e ∙ (ap (λ (ls : List Line). ls ++ Line.OrderZero (record { 0 = n }) ∷ []) f ∙ (append_assoc start (orders 0 n) (Line.OrderZero (record { 0 = n }) ∷ []) ∙ ap (λ (ls : List Line). start ++ ls) (sym more)))

pub push_step : (now next : List (Literal × ℕ)) (n : ℕ) → next ≡ now ++ (at_most n 0, n + 1) ∷ [] → now ≡ zero_steps 0 n → next ≡ zero_steps 0 (n + 1)
push_step now next n e f =
    let more : zero_steps 0 (n + 1) ≡ zero_steps 0 n ++ (at_most n 0, n + 1) ∷ [] = subst (λ (k : ℕ). zero_steps 0 (n + 1) ≡ zero_steps 0 n ++ (at_most k 0, k + 1) ∷ []) (zero-add n) (zero_steps-more 0 n) in
    e ∙ (ap (λ (ls : List (Literal × ℕ)). ls ++ (at_most n 0, n + 1) ∷ []) f ∙ sym more)
