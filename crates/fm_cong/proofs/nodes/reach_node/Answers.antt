use Rattle.fm_cong.proofs.Widening.{keeps_more, keeps_none}
use Rattle.fm_cong.proofs.nodes.reach_node.Goals as goal

pub loop-state-init : goal.loop-state-init
loop-state-init c = record { keeps = keeps_none c.args.state.now }

pub loop-state-preserved : goal.loop-state-preserved
loop-state-preserved c = record { keeps = keeps_more c.args.state.now c.loop-state.state c.add_node.new.state c.loop-state.invariant.keeps c.in_ok-add_node.ensures.keeps }

pub returns-in_err-add_node-clause-keeps : goal.returns-in_err-add_node-clause-keeps
returns-in_err-add_node-clause-keeps c = keeps_more c.args.state.now c.loop-state.state c.add_node.new.state c.loop-state.invariant.keeps c.in_err-add_node.ensures.keeps
