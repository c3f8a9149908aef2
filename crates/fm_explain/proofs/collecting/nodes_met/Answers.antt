use Rattle.std.proofs.Common.{ℕ, List, sym, ap, ◌∙◌, get_or}
use Rattle.fm_cells.specs.Forest.{link_of}
use Rattle.fm_explain.specs.Meant.{nodes_of, with_all}
use Rattle.fm_explain.proofs.Supporting.{nodes_more}
use Rattle.fm_explain.proofs.collecting.nodes_met.Goals as goal

pub loop-node-preserved : goal.loop-node-preserved
loop-node-preserved c =
    let x = get_or c.args.met.now c.loop-node.node-index 0 in
    c.in_ok-put_link.ensures ∙ (ap (λ (ks : List ℕ). with_all ks (nodes_of c.args.bank.now.terms x (link_of c.args.links.now x))) c.loop-node.invariant ∙ sym (nodes_more c.args.bank.now.terms (link_of c.args.links.now) c.args.a c.args.b c.args.met.now c.loop-node.node-index c.loop-node-test.true))
