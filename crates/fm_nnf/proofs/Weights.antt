-- A weight above that of all parts, for the end of recursions; an item of a list weighs no more than all of it.
use Rattle.std.proofs.Common.{◌≡◌, ℕ, zero, suc, ◌+◌, ◌<◌, ◌≤◌, List, [], ◌∷◌, length, map, get_or, sym, subst, arith}
use Rattle.fm_base.specs.declared.formula.Formula.{Formula}
use Rattle.fm_base.specs.declared.formula.Fterm.{Fterm}
use Rattle.fm_base.specs.declared.formula.Formula.TheOpen.{Formula-F, Fterm-F}
use Rattle.fm_base.specs.declared.formula.Formula.TheFolds.{fold-Formula, fold-Fterm}
use Rattle.fm_nnf.specs.NormalSize.{total}

abbrev pub formula_weight_step : Formula-F ℕ ℕ → ℕ
formula_weight_step (Formula-F.Truth b) = 3
formula_weight_step (Formula-F.Pred p ts) = 2 + total ts
formula_weight_step (Formula-F.Equal a b) = 2 + (a + b)
formula_weight_step (Formula-F.Not a) = 2 + a
formula_weight_step (Formula-F.And fs) = 3 + total fs
formula_weight_step (Formula-F.Or fs) = 3 + total fs
formula_weight_step (Formula-F.Iff a b) = 3 + (a + b)
formula_weight_step (Formula-F.«Formula::Ite» c a b) = 3 + (c + (a + b))
formula_weight_step (Formula-F.Quant all vars body) = 2 + body

abbrev pub term_weight_step : Fterm-F ℕ ℕ → ℕ
term_weight_step (Fterm-F.Var v) = 1
term_weight_step (Fterm-F.App f ts) = 2 + total ts
term_weight_step (Fterm-F.«Fterm::Ite» c a b) = 2 + (c + (a + b))

abbrev pub formula_weight : Formula → ℕ
formula_weight = fold-Formula ℕ ℕ formula_weight_step term_weight_step

abbrev pub term_weight : Fterm → ℕ
term_weight = fold-Fterm ℕ ℕ formula_weight_step term_weight_step

pub weight_item : {X : Type 0} (f : X → ℕ) (xs : List X) (i : ℕ) (d : X) → i < length xs → f (get_or xs i d) ≤ total (map f xs)
weight_item f [] i d lt = absurd (omega arith)
weight_item f (x ∷ xs) zero d lt = let h : f x ≤ f x + total (map f xs) = omega arith in h
weight_item f (x ∷ xs) (suc i) d lt =
    let h : f (get_or xs i d) ≤ total (map f xs) = weight_item f xs i d (omega arith) in
    let k : f (get_or xs i d) ≤ f x + total (map f xs) = omega arith in
    k

pub item-weight : {X : Type 0} (f : X → ℕ) (xs : List X) (i : ℕ) (x : X) → i < length xs → x ≡ get_or xs i x → f x ≤ total (map f xs)
item-weight f xs i x lt e = subst (λ y. f y ≤ total (map f xs)) (sym e) (weight_item f xs i x lt)
