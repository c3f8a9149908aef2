use Rattle.std.proofs.Common.{length}
use Rattle.fm_sat.proofs.checked.+has.Given as goal

abbrev pub decreases-has : goal.decreases-has
decreases-has l = length l.lits.now
