-- The explanation forest of an e-graph, as its readers see it.
use Rattle.std.specs.Prelude.{◌≡◌, ◌↔◌, ℕ, List, Option, Some}
use Rattle.fm_base.specs.declared.ids.Lit.{Lit}
use Rattle.fm_cells.specs.Forest.{AreInOneTree, AreWithin, HasEnd, link_of}
use Rattle.fm_cells.specs.declared.edge.Cause.{Cause}
use Rattle.fm_cells.specs.declared.edge.Edge.{Edge}
use Rattle.fm_cong.specs.Held.{AreEqual, Held, link_held}
use Rattle.fm_cong.specs.Paths.{AreCongruentByPaths, IsJoinedBy}

-- the links are those of the graph; two nodes are in one tree exactly where the closure joins them; a link by a literal joins the nodes that this literal
-- joins, and it was read; a link by congruence joins two registered terms of one symbol, and for each two arguments at one
-- place the path between them has only links of smaller time
pub record IsExplained (g : Held) (links : List (Option Edge)) : Type 0 where
  pub same : link_of links ≡ link_held g
  pub within : AreWithin links
  pub ended : (x : ℕ) → HasEnd (link_of links) x
  pub trees : (x y : ℕ) → AreInOneTree (link_of links) x y ↔ AreEqual g x y
  pub literals : (x : ℕ) (l : Edge) (lit : Lit) → link_of links x ≡ Some l → l.cause ≡ Cause.Fact lit → IsJoinedBy g.facts lit x l.to
  pub congruences : (x : ℕ) (l : Edge) → link_of links x ≡ Some l → l.cause ≡ Cause.Congruence → AreCongruentByPaths g.shapes (link_of links) l.time x l.to
