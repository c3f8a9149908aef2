use Rattle.std.proofs.Common.{◌≡◌, ℕ, zero, suc, ◌+◌, ◌<◌, Bool, false, List, [], ◌∷◌, ◌++◌, length, map, take, refl, sym, ap, ◌∙◌, arith}
use Rattle.fm_region.proofs.parts.unmarked.Goals as goal

one_more : (i : ℕ) (xs : List ℕ) → i < length xs → map (λ (c : ℕ). false) (take (suc i) xs) ≡ map (λ (c : ℕ). false) (take i xs) ++ false ∷ []
one_more i [] lt = absurd (omega (arith, lt))
one_more zero (x ∷ xs) lt = refl
one_more (suc i) (x ∷ xs) lt = ap (λ ys. false ∷ ys) (one_more i xs (omega (arith, lt)))

pub loop-c-preserved : goal.loop-c-preserved
loop-c-preserved c =
    let i = c.loop-c._c-index in
    let e : suc i ≡ i + 1 = omega arith in
    c.in_ok-push.ensures.items ∙ (ap (λ (xs : List Bool). xs ++ false ∷ []) c.loop-c.invariant ∙ (sym (one_more i c.args.classes.now (omega (arith, c.loop-c-test.true))) ∙ ap (λ (n : ℕ). map (λ (c : ℕ). false) (take n c.args.classes.now)) e))
