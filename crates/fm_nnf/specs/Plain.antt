-- Formulas and terms in which no term `ite` stands.
use Rattle.std.specs.Prelude.{Bool, true, false, ◌&&◌, List}
use Rattle.std.specs.List.{list_all}
use Rattle.fm_base.specs.declared.formula.Formula.{Formula}
use Rattle.fm_base.specs.declared.formula.Fterm.{Fterm}
use Rattle.fm_base.specs.declared.formula.Formula.TheOpen.{Formula-F, Fterm-F}
use Rattle.fm_base.specs.declared.formula.Formula.TheFolds.{fold-Formula, fold-Fterm}

abbrev pub all_plain : List Bool → Bool
all_plain bs = list_all (λ (b : Bool). b) bs

abbrev pub formula_plain_step : Formula-F Bool Bool → Bool
formula_plain_step (Formula-F.Truth b) = true
formula_plain_step (Formula-F.Pred p ts) = all_plain ts
formula_plain_step (Formula-F.Equal a b) = a && b
formula_plain_step (Formula-F.Not a) = a
formula_plain_step (Formula-F.And fs) = all_plain fs
formula_plain_step (Formula-F.Or fs) = all_plain fs
formula_plain_step (Formula-F.Iff a b) = a && b
formula_plain_step (Formula-F.«Formula::Ite» c a b) = c && (a && b)
formula_plain_step (Formula-F.Quant all vars body) = body

abbrev pub term_plain_step : Fterm-F Bool Bool → Bool
term_plain_step (Fterm-F.Var v) = true
term_plain_step (Fterm-F.App f ts) = all_plain ts
term_plain_step (Fterm-F.«Fterm::Ite» c a b) = false

abbrev pub is_plain : Formula → Bool
is_plain = fold-Formula Bool Bool formula_plain_step term_plain_step

abbrev pub is_plain_term : Fterm → Bool
is_plain_term = fold-Fterm Bool Bool formula_plain_step term_plain_step
