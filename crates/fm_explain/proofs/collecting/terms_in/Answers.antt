use Rattle.std.proofs.Common.{ℕ, List, [], ◌++◌, sym, ap, ◌∙◌, get_or}
use Rattle.std.specs.List.{cons_option}
use Rattle.fm_explain.specs.Meant.{term_at}
use Rattle.fm_explain.proofs.Arguments.{filter_map_next}
use Rattle.fm_explain.proofs.collecting.terms_in.Goals as goal

pub loop-node-preserved : goal.loop-node-preserved
loop-node-preserved c =
    c.in_ok-push_term.ensures ∙ (ap (λ (ns : List ℕ). ns ++ cons_option (term_at (get_or c.args.nodes.now c.loop-node.node-index 0)) []) c.loop-node.invariant ∙ sym (filter_map_next term_at c.args.nodes.now c.loop-node.node-index 0 c.loop-node-test.true))
