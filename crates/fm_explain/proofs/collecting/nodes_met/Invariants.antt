use Rattle.std.proofs.Common.{◌≡◌, [], take}
use Rattle.fm_cells.specs.Forest.{link_of}
use Rattle.fm_explain.specs.Meant.{path_nodes, with_all}
use Rattle.fm_explain.proofs.collecting.nodes_met.Given as goal

abbrev pub invariant-loop-node : goal.invariant-loop-node
invariant-loop-node l = l.nodes.keys ≡ with_all [] (path_nodes l.bank.terms (link_of l.links) l.a l.b (take l.node-index l.met))
