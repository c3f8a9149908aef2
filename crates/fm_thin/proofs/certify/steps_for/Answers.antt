use Rattle.std.proofs.Common.{◌∙◌, sym}
use Rattle.fm_thin.proofs.Loops.{zero_steps-none, push_step}
use Rattle.fm_thin.proofs.certify.steps_for.Goals as goal

pub loop-sort-init : goal.loop-sort-init
loop-sort-init c = c.new-steps.ensures.items ∙ sym (zero_steps-none 0)

pub loop-sort-preserved : goal.loop-sort-preserved
loop-sort-preserved c = push_step c.loop-sort.steps.items c.push.new.self.items c.loop-sort.sort c.in_ok-push.ensures.items c.loop-sort.invariant
