-- The explanation forest of a settled state.
use Rattle.std.proofs.Common.{subst, sym}
use Rattle.fm_cells.specs.Forest.{link_of}
use Rattle.fm_cells.specs.Rings.{own_or}
use Rattle.fm_cells.specs.declared.edge.Cause.{Cause}
use Rattle.fm_cong.specs.Explained.{IsExplained}
use Rattle.fm_cong.specs.Faithful.{held_in}
use Rattle.fm_cong.specs.Graphs.{cells_of, pairs_of}
use Rattle.fm_cong.specs.Levels.{IsComplete}
use Rattle.fm_cong.specs.Paths.{IsJustified}
use Rattle.fm_cong.specs.declared.egraph.Egraph.TheInside.{Inside}
use Rattle.fm_cells.proofs.Trimming.{trimmed_link}
use Rattle.fm_cong.proofs.Forests.{by_paths, trees_follow}
use Rattle.fm_cong.proofs.Reading.{classes_exact}

pub explained_in : (g : Inside) → IsComplete g.members.items (cells_of g.state) → IsExplained (held_in g) g.state.links.cells.items
explained_in g h =
    let c = cells_of g.state in
    let w = h.steady.working in
    let link = link_of c.links in
    let class = own_or c.class in
    record {
      same = sym (trimmed_link g.state.links.cells.items);
      within = w.within;
      ended = w.forest.trees.ended;
      trees = trees_follow g.members.items c.facts link class c.time w.forest g.members.items (pairs_of c.facts) (classes_exact g.members.items c h);
      literals = λ x l lit e cause. subst (λ (k : Cause). IsJustified g.members.items g.state.facts.items (link_of g.state.links.cells.items) k l.time x l.to) cause (w.forest.justified x l e);
      congruences = by_paths g.members.items c.facts link class c.time w.forest;
    }
