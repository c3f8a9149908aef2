-- Measures beside one another.
use Rattle.std.proofs.Common.{◌≡◌, ℕ, suc, ◌+◌, ◌<◌, false, List, ◌∷◌, length, drop, get_or, ap, sym, subst, ◌∙◌, arith}
use Rattle.std.specs.Prelude.{max}
use Rattle.std.proofs.lemmas.List.{drop_more}
use Rattle.fm_arena.specs.Measures.{is_fit}
use Rattle.fm_arena.specs.Weights.{Weights, beside, param_weight, params_weight}
use Rattle.fm_arena.specs.declared.forms.Param.{Param}
use Rattle.fm_arena.specs.declared.sizes.Measure.{Measure}

pub measure_same : (s t d e : ℕ) → s ≡ t → d ≡ e → (let m : Measure = record { size = s; depth = d } in let n : Measure = record { size = t; depth = e } in m ≡ n)
measure_same s t d e h k = ap (λ (x : ℕ). let m : Measure = record { size = x; depth = d } in m) h ∙ ap (λ (y : ℕ). let m : Measure = record { size = t; depth = y } in m) k

pub beside_assoc : (a b c : Measure) → beside (beside a b) c ≡ beside a (beside b c)
beside_assoc a b c = measure_same ((a.size + b.size) + c.size) (a.size + (b.size + c.size)) (max (max a.depth b.depth) c.depth) (max a.depth (max b.depth c.depth)) (omega arith) (omega arith)

pub unfit_beside : (a b : Measure) → false ≡ is_fit a → false ≡ is_fit (beside a b)
unfit_beside a b h = grind (arith, h)

-- one more parameter
pub param_step : (sum next goal : Measure) (ps : List Param) (i : ℕ) (p : Param) (w : Weights) → i < length ps → p ≡ get_or ps i p → beside sum (param_weight p i w) ≡ next
    → beside sum (params_weight (drop i ps) i w) ≡ goal → beside next (params_weight (drop (i + 1) ps) (i + 1) w) ≡ goal
param_step sum next goal ps i p w lt is e h =
    let step : drop i ps ≡ p ∷ drop (i + 1) ps = subst (λ (y : Param). drop i ps ≡ y ∷ drop (i + 1) ps) (sym is) (drop_more ps i p lt) in
    let up : suc i ≡ i + 1 = omega arith in
    ap (λ (m : Measure). beside m (params_weight (drop (i + 1) ps) (i + 1) w)) (sym e)
    ∙ beside_assoc sum (param_weight p i w) (params_weight (drop (i + 1) ps) (i + 1) w)
    ∙ ap (λ (k : ℕ). beside sum (beside (param_weight p i w) (params_weight (drop (i + 1) ps) k w))) (sym up)
    ∙ ap (λ (l : List Param). beside sum (params_weight l i w)) (sym step)
    ∙ h
