-- Formulas and terms as one type, and what an operator makes of them: the table of Core in SMT-LIB 2.6. A term where a
-- formula is wanted, and the other way round, counts as a fixed one; calls that make terms rule it out.
use Rattle.std.specs.Prelude.{ℕ, Bool, true, false, List, [], ◌∷◌, ◌++◌, map, get_or, Option, Some, None}
use Rattle.fm_base.specs.declared.formula.Formula
use Rattle.fm_base.specs.declared.formula.Formula.{Formula}
use Rattle.fm_base.specs.declared.formula.Fterm
use Rattle.fm_base.specs.declared.formula.Fterm.{Fterm}
use Rattle.fm_arena.specs.declared.node.Op.{Op}
use Rattle.fm_arena.specs.declared.node.Tree.{Tree}

abbrev pub formula_in : Tree → Formula
formula_in (Tree.Truth f) = f
formula_in (Tree.Thing t) = Formula.Truth true

abbrev pub thing_in : Tree → Fterm
thing_in (Tree.Truth f) = Fterm.Var 0
thing_in (Tree.Thing t) = t

abbrev pub is_truth : Tree → Bool
is_truth (Tree.Truth f) = true
is_truth (Tree.Thing t) = false

-- a tree that stands where none is given
abbrev pub nothing : Tree
nothing = Tree.Truth (Formula.Truth true)

abbrev pub formula_at : List Tree → ℕ → Formula
formula_at ts i = formula_in (get_or ts i nothing)

abbrev pub thing_at : List Tree → ℕ → Fterm
thing_at ts i = thing_in (get_or ts i nothing)

-- a formula where a truth value is wanted, else a term
abbrev pub of_kind : Bool → Tree → Tree
of_kind true t = Tree.Truth (formula_in t)
of_kind false t = Tree.Thing (thing_in t)

-- that two trees differ, and that all of some do: the first and each later one, then the second, and so on
abbrev pub apart : Bool → Tree → Tree → Formula
apart true a b = Formula.Not (Formula.Iff (formula_in a) (formula_in b))
apart false a b = Formula.Not (Formula.Equal (thing_in a) (thing_in b))

abbrev pub all_apart : Bool → List Tree → List Formula
all_apart truth [] = []
all_apart truth (t ∷ ts) = map (apart truth t) ts ++ all_apart truth ts

-- what an operator makes of its arguments
abbrev pub built : Op → List Tree → Tree
built (Op.Truth b) ts = Tree.Truth (Formula.Truth b)
built (Op.Pred p) ts = Tree.Truth (Formula.Pred p (map thing_in ts))
built (Op.App f) ts = Tree.Thing (Fterm.App f (map thing_in ts))
built Op.Not ts = Tree.Truth (Formula.Not (formula_at ts 0))
built Op.And ts = Tree.Truth (Formula.And (map formula_in ts))
built Op.Or ts = Tree.Truth (Formula.Or (map formula_in ts))
built Op.Equal ts = Tree.Truth (Formula.Equal (thing_at ts 0) (thing_at ts 1))
built Op.Iff ts = Tree.Truth (Formula.Iff (formula_at ts 0) (formula_at ts 1))
built Op.Ite ts = Tree.Truth (Formula.Ite (formula_at ts 0) (formula_at ts 1) (formula_at ts 2))
built Op.Choice ts = Tree.Thing (Fterm.Ite (formula_at ts 0) (thing_at ts 1) (thing_at ts 2))
built (Op.Distinct truth) ts = Tree.Truth (Formula.And (all_apart truth ts))

-- the kinds of arguments that an operator takes: true is a formula
abbrev pub all_formulas : List Bool → Bool
all_formulas [] = true
all_formulas (true ∷ ks) = all_formulas ks
all_formulas (false ∷ ks) = false

abbrev pub all_things : List Bool → Bool
all_things [] = true
all_things (true ∷ ks) = false
all_things (false ∷ ks) = all_things ks

abbrev pub takes : Op → List Bool → Bool
takes (Op.Truth b) [] = true
takes (Op.Pred p) ks = all_things ks
takes (Op.App f) ks = all_things ks
takes Op.Not (true ∷ []) = true
takes Op.And ks = all_formulas ks
takes Op.Or ks = all_formulas ks
takes (Op.Distinct true) ks = all_formulas ks
takes (Op.Distinct false) ks = all_things ks
takes Op.Equal (false ∷ false ∷ []) = true
takes Op.Iff (true ∷ true ∷ []) = true
takes Op.Ite (true ∷ true ∷ true ∷ []) = true
takes Op.Choice (true ∷ false ∷ false ∷ []) = true
takes _ _ = false

-- whether an operator makes a formula
abbrev pub makes_truth : Op → Bool
makes_truth (Op.Truth b) = true
makes_truth (Op.Pred p) = true
makes_truth (Op.App f) = false
makes_truth Op.Not = true
makes_truth Op.And = true
makes_truth Op.Or = true
makes_truth Op.Equal = true
makes_truth Op.Iff = true
makes_truth Op.Ite = true
makes_truth Op.Choice = false
makes_truth (Op.Distinct truth) = true

-- the kind of arguments that `distinct` takes
abbrev pub apart_kind : Op → Option Bool
apart_kind (Op.Distinct truth) = Some truth
apart_kind (Op.Truth b) = None
apart_kind (Op.Pred p) = None
apart_kind (Op.App f) = None
apart_kind Op.Not = None
apart_kind Op.And = None
apart_kind Op.Or = None
apart_kind Op.Equal = None
apart_kind Op.Iff = None
apart_kind Op.Ite = None
apart_kind Op.Choice = None
