use Rattle.std.proofs.Common.{◌≡◌, ℕ, take}
use Rattle.std.specs.List.{filter_map}
use Rattle.fm_cells.specs.Forest.{link_of}
use Rattle.fm_explain.specs.Meant.{lit_at}
use Rattle.fm_explain.proofs.collecting.literals.Given as goal

abbrev pub invariant-loop-node : goal.invariant-loop-node
invariant-loop-node l = l.lits.items ≡ filter_map (λ (e : ℕ). lit_at (link_of l.links e)) (take l.node-index l.nodes)
