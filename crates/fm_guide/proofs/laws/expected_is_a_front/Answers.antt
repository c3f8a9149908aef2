use Rattle.fm_guide.proofs.Expecting.{expected}
use Rattle.fm_guide.proofs.laws.expected_is_a_front.Goals as goal

pub returns : goal.returns
returns c = expected
