use Rattle.std.proofs.Common.{ℕ, List, [], ◌++◌, Option, get_or, sym, ◌∙◌, ap}
use Rattle.std.specs.List.{cons_option}
use Rattle.fm_base.specs.declared.ids.Lit.{Lit}
use Rattle.fm_cells.specs.Forest.{link_of}
use Rattle.fm_explain.specs.Meant.{lit_at}
use Rattle.fm_cells.specs.declared.edge.Edge.{Edge}
use Rattle.fm_explain.proofs.Arguments.{filter_map_next}
use Rattle.fm_explain.proofs.collecting.literals.Goals as goal

pub loop-node-preserved : goal.loop-node-preserved
loop-node-preserved c =
    let f : ℕ → Option Lit = λ e. lit_at (link_of c.args.links.now e) in
    let next = filter_map_next f c.args.nodes.now c.loop-node.node-index 0 c.loop-node-test.true in
    c.in_ok-push_literal.ensures ∙ (ap (λ (o : Option Edge). c.loop-node.lits.items ++ cons_option (lit_at o) []) c.link_of.ensures ∙ (ap (λ (ls : List Lit). ls ++ cons_option (f (get_or c.args.nodes.now c.loop-node.node-index 0)) []) c.loop-node.invariant ∙ sym next))
