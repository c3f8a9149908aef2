use Rattle.fm_blocks.proofs.TextFaults.{not_both}
use Rattle.fm_blocks.proofs.laws.not_both.Goals as goal

pub returns : goal.returns
returns c = not_both
