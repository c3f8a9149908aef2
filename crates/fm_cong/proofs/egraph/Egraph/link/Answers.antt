use Rattle.std.proofs.Common.{List, Option, ap, sym, ◌∙◌}
use Rattle.fm_cells.specs.Forest.{link_of}
use Rattle.fm_cells.specs.declared.edge.Edge.{Edge}
use Rattle.fm_cells.proofs.Trimming.{trimmed_link}
use Rattle.fm_cong.specs.Held.{Held, link_held}
use Rattle.fm_cong.specs.Links.{node_of}
use Rattle.fm_cong.proofs.egraph.Egraph.link.Goals as goal

pub returns : goal.returns
returns c =
    let n = node_of c.args.node in
    c.link_in.ensures ∙ (ap (λ (ls : List (Option Edge)). link_of ls n) c.as_slice.ensures.value ∙ ((λ i. sym (trimmed_link c.self.inside.state.links.cells.items) i n) ∙ ap (λ (h : Held). link_held h n) c.self.view_is))
