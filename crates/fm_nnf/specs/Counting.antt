-- The nodes of a normal form counted on the formula, with no normal form made; what the frames of the count say; and how many
-- variables a formula binds.
use Rattle.std.specs.Prelude.{ℕ, ◌+◌, Bool, true, false, not, get_or, replicate, List, [], ◌∷◌, ◌++◌, length}
use mathlib.Core.Bool.{beq}
use Rattle.fm_base.specs.declared.ids.SortId.{SortId}
use Rattle.fm_base.specs.declared.formula.Formula.{Formula}
use Rattle.fm_base.specs.declared.formula.Fterm.{Fterm}
use Rattle.fm_base.specs.declared.formula.Formula.TheOpen.{Formula-F, Fterm-F}
use Rattle.fm_base.specs.declared.formula.Formula.TheFolds.{fold-Formula, fold-Fterm}
use Rattle.fm_nnf.specs.declared.size.Frame.{Frame}
use Rattle.fm_nnf.specs.declared.size.Frame.TheOpen.{Frame-F}
use Rattle.fm_nnf.specs.declared.size.Frame.TheFolds.{fold-Frame}
use Rattle.fm_nnf.specs.NormalSize.{total}

-- under a sign, with the nodes of what stands for each variable, and the number of universal variables in scope
abbrev pub Counted : Type 0
Counted = Bool → List ℕ → ℕ → ℕ

abbrev pub count_all : Bool → List Counted → List ℕ → ℕ → ℕ
count_all positive [] sizes universal = 0
count_all positive (c ∷ cs) sizes universal = c positive sizes universal + count_all positive cs sizes universal

abbrev pub term_counts : List (List ℕ → ℕ) → List ℕ → ℕ
term_counts [] sizes = 0
term_counts (t ∷ ts) sizes = t sizes + term_counts ts sizes

abbrev pub count_quantifier : Bool → List SortId → (List ℕ → ℕ → ℕ) → List ℕ → ℕ → ℕ
count_quantifier true vars body sizes universal = 1 + body (sizes ++ replicate (length vars) 1) (universal + length vars)
count_quantifier false vars body sizes universal = body (sizes ++ replicate (length vars) (1 + universal)) universal

abbrev pub count_step : Formula-F Counted (List ℕ → ℕ) → Counted
count_step (Formula-F.Truth b) positive sizes universal = 1
count_step (Formula-F.Pred p ts) positive sizes universal = 1 + term_counts ts sizes
count_step (Formula-F.Equal a b) positive sizes universal = 1 + (a sizes + b sizes)
count_step (Formula-F.Not a) positive sizes universal = a (not positive) sizes universal
count_step (Formula-F.And fs) positive sizes universal = 1 + count_all positive fs sizes universal
count_step (Formula-F.Or fs) positive sizes universal = 1 + count_all positive fs sizes universal
count_step (Formula-F.Iff a b) positive sizes universal = 3 + (a (not positive) sizes universal + b true sizes universal) + (a positive sizes universal + b false sizes universal)
count_step (Formula-F.«Formula::Ite» c a b) positive sizes universal = 3 + (c false sizes universal + a positive sizes universal) + (c true sizes universal + b positive sizes universal)
count_step (Formula-F.Quant all vars body) positive sizes universal = count_quantifier (beq all positive) vars (body positive) sizes universal

abbrev pub term_count_step : Fterm-F Counted (List ℕ → ℕ) → List ℕ → ℕ
term_count_step (Fterm-F.Var v) sizes = get_or sizes v 1
term_count_step (Fterm-F.App f ts) sizes = 1 + term_counts ts sizes
term_count_step (Fterm-F.«Fterm::Ite» c a b) sizes = 1

abbrev pub normal_count : Formula → Counted
normal_count = fold-Formula Counted (List ℕ → ℕ) count_step term_count_step

abbrev pub term_count : Fterm → List ℕ → ℕ
term_count = fold-Fterm Counted (List ℕ → ℕ) count_step term_count_step

abbrev pub frame_step : Frame-F (List ℕ) → List ℕ
frame_step Frame-F.Top = []
frame_step (Frame-F.Inner outer count size) = outer.now ++ replicate count size

-- the sizes of what stands for the variables in scope, the outermost first
abbrev pub sizes_of : Frame → List ℕ
sizes_of = fold-Frame (List ℕ) frame_step

abbrev pub formula_variables_step : Formula-F ℕ ℕ → ℕ
formula_variables_step (Formula-F.Truth b) = 0
formula_variables_step (Formula-F.Pred p ts) = 0
formula_variables_step (Formula-F.Equal a b) = 0
formula_variables_step (Formula-F.Not a) = a
formula_variables_step (Formula-F.And fs) = total fs
formula_variables_step (Formula-F.Or fs) = total fs
formula_variables_step (Formula-F.Iff a b) = a + b
formula_variables_step (Formula-F.«Formula::Ite» c a b) = c + (a + b)
formula_variables_step (Formula-F.Quant all vars body) = length vars + body

abbrev pub term_variables_step : Fterm-F ℕ ℕ → ℕ
term_variables_step t = 0

-- an Or of two, each under a sign of its own
abbrev pub or_count : Formula → Bool → Formula → Bool → List ℕ → ℕ → ℕ
or_count a a_positive b b_positive sizes universal = 1 + (normal_count a a_positive sizes universal + normal_count b b_positive sizes universal)

abbrev pub block_count : Bool → List SortId → Formula → Bool → List ℕ → ℕ → ℕ
block_count stays vars body positive sizes universal = count_quantifier stays vars (normal_count body positive) sizes universal

-- how many variables the quantifiers of a formula bind, those within term `ite`s left aside
abbrev pub variables_of : Formula → ℕ
variables_of = fold-Formula ℕ ℕ formula_variables_step term_variables_step
