-- How many nodes a normal form has.
use Rattle.std.specs.Prelude.{ℕ, ◌+◌, List, [], ◌∷◌, map}
use Rattle.fm_base.specs.declared.formula.Nnf.{Nnf}
use Rattle.fm_base.specs.declared.formula.Nnf.TheOpen.{Nnf-F}
use Rattle.fm_base.specs.declared.formula.Nnf.TheFolds.{fold-Nnf}
use Rattle.fm_base.specs.declared.formula.Patom.{Patom}
use Rattle.fm_base.specs.declared.formula.Pterm.{Pterm}
use Rattle.fm_base.specs.declared.formula.Pterm.TheOpen.{Pterm-F}
use Rattle.fm_base.specs.declared.formula.Pterm.TheFolds.{fold-Pterm}

-- the sum of a list
abbrev pub total : List ℕ → ℕ
total [] = 0
total (n ∷ ns) = n + total ns

abbrev pub term_nodes_step : Pterm-F ℕ → ℕ
term_nodes_step (Pterm-F.Var v) = 1
term_nodes_step (Pterm-F.App f ts) = 1 + total ts

abbrev pub term_nodes : Pterm → ℕ
term_nodes = fold-Pterm ℕ term_nodes_step

-- the terms of an atom, which itself is counted with its literal
abbrev pub atom_nodes : Patom → ℕ
atom_nodes (Patom.Pred p ts) = total (map term_nodes ts)
atom_nodes (Patom.Equal a b) = term_nodes a + term_nodes b

abbrev pub nodes_step : Nnf-F ℕ → ℕ
nodes_step (Nnf-F.Lit positive a) = 1 + atom_nodes a
nodes_step (Nnf-F.And fs) = 1 + total fs
nodes_step (Nnf-F.Or fs) = 1 + total fs
nodes_step (Nnf-F.All vars body) = 1 + body

abbrev pub nodes : Nnf → ℕ
nodes = fold-Nnf ℕ nodes_step
