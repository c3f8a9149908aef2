-- One link of the explanation forest, as a reader of it sees it.
use Rattle.std.specs.Prelude.{ℕ}
use Rattle.fm_bank.specs.Closure.{no, object, yes}
use Rattle.fm_cells.specs.declared.edge.Edge.{Edge}
use Rattle.fm_cong.specs.declared.link.Link.{Link}
use Rattle.fm_cong.specs.declared.link.Node.{Node}

abbrev pub node_of : Node → ℕ
node_of (Node.Term t) = object t.0
node_of Node.Yes = yes
node_of Node.No = no

abbrev pub edge_of : Link → Edge
edge_of l = record { to = node_of l.to; cause = l.cause; time = l.time }
