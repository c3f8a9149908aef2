use Rattle.fm_build.proofs.Naming.{tuples_are_named}
use Rattle.fm_build.proofs.laws.tuples_are_named.Goals as goal

pub returns : goal.returns
returns c = tuples_are_named
