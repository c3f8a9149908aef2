use Rattle.std.proofs.Common.{ℕ, sym, subst}
use Rattle.fm_bank.specs.Closure.{object}
use Rattle.fm_cells.specs.Forest.{AreInOneTree, link_of}
use Rattle.fm_explain.proofs.Answering.{explains_by}
use Rattle.fm_explain.proofs.explaining.explain.Goals as goal

pub explain_along-requires-clause-tree : goal.explain_along-requires-clause-tree
explain_along-requires-clause-tree c =
    let link = link_of c.links.result.now in
    let tree = (c.links.ensures.explained.trees (object c.args.a.0) (object c.args.b.0)).1 c.requires.equal in
    subst (λ (z : ℕ). AreInOneTree link c.in_ok-left.left z) (sym c.in_ok-right.ensures) (subst (λ (z : ℕ). AreInOneTree link z (object c.args.b.0)) (sym c.in_ok-left.ensures) tree)

pub returns : goal.returns
returns c =
    let e = c.explain_along.ensures in
    explains_by c.args.graph.now c.args.bank.now c.links.result.now c.links.ensures.explained c.explain_along.result c.in_ok-left.left c.in_ok-right.right (object c.args.a.0) (object c.args.b.0) c.in_ok-left.ensures c.in_ok-right.ensures e.paths e.read e.shows
