-- Sizes and depths: a node is one constructor, the depth is the number of nodes on the longest path.
use Rattle.std.specs.Prelude.{ℕ, ◌+◌, max, Bool, ◌&&◌, nat_le, List, [], ◌∷◌, ◌++◌, map}
use Rattle.fm_base.specs.declared.formula.Formula.{Formula}
use Rattle.fm_base.specs.declared.formula.Fterm.{Fterm}
use Rattle.fm_base.specs.declared.formula.Formula.TheOpen.{Formula-F, Fterm-F}
use Rattle.fm_base.specs.declared.formula.Formula.TheFolds.{fold-Formula, fold-Fterm}
use Rattle.fm_arena.specs.declared.node.Op.{Op}
use Rattle.fm_arena.specs.declared.node.Tree.{Tree}
use Rattle.fm_arena.specs.declared.sizes.Measure.{Measure}

abbrev pub total : List Measure → ℕ
total [] = 0
total (m ∷ ms) = m.size + total ms

abbrev pub deepest : List Measure → ℕ
deepest [] = 0
deepest (m ∷ ms) = max m.depth (deepest ms)

-- one node
abbrev pub one : Measure
one = record { size = 1; depth = 1 }

-- a node over its parts
abbrev pub over : List Measure → Measure
over ms = record { size = 1 + total ms; depth = 1 + deepest ms }

-- two nodes over a pair, for each pair
abbrev pub pair_measure : Measure → Measure → Measure
pair_measure a b = over (over (a ∷ b ∷ []) ∷ [])

abbrev pub all_pairs : List Measure → List Measure
all_pairs [] = []
all_pairs (m ∷ ms) = map (pair_measure m) ms ++ all_pairs ms

-- what an operator weighs over its parts
abbrev pub weigh : Op → List Measure → Measure
weigh (Op.Distinct truth) ms = over (all_pairs ms)
weigh (Op.Truth b) ms = over ms
weigh (Op.Pred p) ms = over ms
weigh (Op.App f) ms = over ms
weigh Op.Not ms = over ms
weigh Op.And ms = over ms
weigh Op.Or ms = over ms
weigh Op.Equal ms = over ms
weigh Op.Iff ms = over ms
weigh Op.Ite ms = over ms
weigh Op.Choice ms = over ms

abbrev pub measure_step : Formula-F Measure Measure → Measure
measure_step (Formula-F.Truth b) = over []
measure_step (Formula-F.Pred p ts) = over ts
measure_step (Formula-F.Equal a b) = over (a ∷ b ∷ [])
measure_step (Formula-F.Not a) = over (a ∷ [])
measure_step (Formula-F.And fs) = over fs
measure_step (Formula-F.Or fs) = over fs
measure_step (Formula-F.Iff a b) = over (a ∷ b ∷ [])
measure_step (Formula-F.«Formula::Ite» c a b) = over (c ∷ a ∷ b ∷ [])
measure_step (Formula-F.Quant all vars body) = over (body ∷ [])

abbrev pub term_step : Fterm-F Measure Measure → Measure
term_step (Fterm-F.Var v) = over []
term_step (Fterm-F.App f ts) = over ts
term_step (Fterm-F.«Fterm::Ite» c a b) = over (c ∷ a ∷ b ∷ [])

abbrev pub measure : Formula → Measure
measure = fold-Formula Measure Measure measure_step term_step

abbrev pub term_measure : Fterm → Measure
term_measure = fold-Fterm Measure Measure measure_step term_step

abbrev pub tree_measure : Tree → Measure
tree_measure (Tree.Truth f) = measure f
tree_measure (Tree.Thing t) = term_measure t

-- at most 1,000,000 nodes and a depth of at most 400
abbrev pub is_fit : Measure → Bool
is_fit m = nat_le m.size 1000000 && nat_le m.depth 400
