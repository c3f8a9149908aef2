use Rattle.fm_script.proofs.Numbers.{stays_wide}
use Rattle.fm_script.proofs.words.number_value.Goals as goal

pub returns-in-None : goal.returns-in-None
returns-in-None c = stays_wide c.args.digits.now c.loop-digit.digit-index c.loop-digit.sum 0 c.loop-digit-test.true c.loop-digit.invariant.so_far c.in-None.ensures
