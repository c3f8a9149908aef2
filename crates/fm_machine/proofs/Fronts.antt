-- What the readers have read, one entry more, and after going back.
use Rattle.std.proofs.Common.{◌≡◌, ℕ, zero, suc, ◌+◌, ◌-◌, ◌<◌, List, [], ◌∷◌, ◌++◌, take, Some, ap, subst, ◌∙◌, arith}
use Rattle.std.specs.Prelude.{slice_get}
use Rattle.fm_trail.specs.Trail.{AreLevelled, decisions_in, level_of}
use Rattle.fm_trail.specs.declared.entry.Entry.{Entry}

level_step : (n k : ℕ) (f e : Entry) (fs : List Entry) → f.level ≡ n + decisions_in f → e.level ≡ f.level + level_of (take (suc k) fs) → e.level ≡ n + (decisions_in f + level_of (take (suc k) fs))
level_step n k f e fs a b = omega (arith, a, b)

level_there : (n k : ℕ) (es : List Entry) (e : Entry) → AreLevelled n es → slice_get es k ≡ Some e → e.level ≡ n + level_of (take (suc k) es)
level_there n k [] e h at = cc at
level_there n zero (f ∷ fs) e h at = (let same : f ≡ e = cc at in let l = h.0 in subst (λ (x : Entry). x.level ≡ n + (decisions_in f + 0)) same (omega (arith, l)))
level_there n (suc k) (f ∷ fs) e h at = level_step n k f e fs h.0 (level_there f.level k fs e h.1 at)

-- the level of the last entry among the first ones
pub last_level : (head : ℕ) (es : List Entry) (e : Entry) → AreLevelled 0 es → 0 < head → slice_get es (head - 1) ≡ Some e → e.level ≡ level_of (take head es)
last_level zero es e h lt at = absurd (omega (arith, lt))
last_level (suc k) es e h lt at =
    let back : suc k - 1 ≡ k = omega arith in
    let is = level_there 0 k es e h (subst (λ n. slice_get es n ≡ Some e) back at) in
    omega (arith, is)

-- the first entries, one more
pub take_next : (head : ℕ) (es : List Entry) (e : Entry) → slice_get es head ≡ Some e → take (head + 1) es ≡ take head es ++ e ∷ []
take_next head [] e at = cc at
take_next zero (f ∷ fs) e at = (let same : f ≡ e = cc at in ap (λ (x : Entry). x ∷ []) same)
take_next (suc k) (f ∷ fs) e at =
    let next : suc k + 1 ≡ suc (k + 1) = omega arith in
    ap (λ n. take n (f ∷ fs)) next ∙ ap (λ (xs : List Entry). f ∷ xs) (take_next k fs e at)
