use Rattle.fm_blocks.proofs.TextFaults.{good_texts_hold}
use Rattle.fm_blocks.proofs.laws.good_texts_hold.Goals as goal

pub returns : goal.returns
returns c = good_texts_hold
