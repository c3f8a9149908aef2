use Rattle.std.proofs.Common.{ℕ, sym, subst}
use Rattle.fm_bank.specs.Closure.{object}
use Rattle.fm_cells.specs.Forest.{AreInOneTree, link_of}
use Rattle.fm_explain.specs.Explanations.{truth_node}
use Rattle.fm_explain.proofs.Answering.{explains_by}
use Rattle.fm_explain.proofs.explaining.explain_truth.Goals as goal

pub explain_along-requires-clause-tree : goal.explain_along-requires-clause-tree
explain_along-requires-clause-tree c =
    let link = link_of c.links.result.now in
    let tree = (c.links.ensures.explained.trees (object c.args.term.0) (truth_node c.args.truth)).1 c.requires.equal in
    subst (λ (z : ℕ). AreInOneTree link c.in_ok-node.node z) (sym c.node_of_truth.ensures) (subst (λ (z : ℕ). AreInOneTree link z (truth_node c.args.truth)) (sym c.in_ok-node.ensures) tree)

pub returns : goal.returns
returns c =
    let e = c.explain_along.ensures in
    explains_by c.args.graph.now c.args.bank.now c.links.result.now c.links.ensures.explained c.explain_along.result c.in_ok-node.node c.node_of_truth.result (object c.args.term.0) (truth_node c.args.truth) c.in_ok-node.ensures c.node_of_truth.ensures e.paths e.read e.shows
