use Rattle.fm_cert.specs.Fits.{FitsStep, IsOrderedStep}
use Rattle.fm_cert.specs.Spelling.{spelling_of_step}
use Rattle.fm_cert.proofs.Taken.{all_at, taken_more, text_more}
use Rattle.fm_cert.proofs.text.print_steps.Goals as goal

pub loop-step-preserved : goal.loop-step-preserved
loop-step-preserved c = (
  text_more spelling_of_step c.args.out.now.items c.loop-step.out.items c.print_step.new.out.items c.args.steps.now c.loop-step.step-index _ c.loop-step-test.true c.loop-step.invariant.0 c.in_ok-print_step.ensures.whole,
  λ ordered. taken_more FitsStep c.args.steps.now c.loop-step.step-index _ c.loop-step-test.true (c.loop-step.invariant.1 ordered) (c.in_ok-print_step.ensures.fits (all_at IsOrderedStep c.args.steps.now c.loop-step.step-index _ c.loop-step-test.true ordered)),
)
