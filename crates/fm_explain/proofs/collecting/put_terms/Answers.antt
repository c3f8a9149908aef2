use Rattle.std.proofs.Common.{ℕ, List, sym, ap, ◌∙◌, get_or}
use Rattle.fm_bank.specs.Closure.{object}
use Rattle.fm_explain.specs.Meant.{with_node}
use Rattle.fm_explain.proofs.Supporting.{all_more}
use Rattle.fm_explain.proofs.collecting.put_terms.Goals as goal

pub loop-term-preserved : goal.loop-term-preserved
loop-term-preserved c =
    let node = object (get_or c.args.terms.now c.loop-term.term-index (record { 0 = 0 })).0 in
    let put = ap (λ (z : ℕ). with_node c.loop-term.nodes.keys z) c.in_ok-node.ensures in
    c.in_ok-put.ensures ∙ (put ∙ (ap (λ (ks : List ℕ). with_node ks node) c.loop-term.invariant ∙ sym (all_more c.args.nodes.now.keys c.args.terms.now c.loop-term.term-index (record { 0 = 0 }) c.loop-term-test.true)))
