use Rattle.fm_build.proofs.Grounding.{contents_grounded}
use Rattle.fm_build.proofs.laws.contents_are_grounded.Goals as goal

pub returns : goal.returns
returns c = contents_grounded
