use Rattle.std.proofs.Common.{◌≡◌, length}
use Rattle.fm_region.specs.Answers.{first_pair}
use Rattle.fm_region.specs.Rows.{apart_in}
use Rattle.fm_region.proofs.strong.open_pair.Given as goal

abbrev pub invariant-loop-c : goal.invariant-loop-c
invariant-loop-c l = first_pair (apart_in l.near) l.rest ≡ first_pair (apart_in l.near) l.fn.test

abbrev pub decreases-loop-c : goal.decreases-loop-c
decreases-loop-c l = length l.rest
