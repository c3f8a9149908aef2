use Rattle.fm_cert.proofs.Fronts.{front_of}
use Rattle.fm_cert.proofs.laws.read_blocks_come_first.Goals as goal

pub returns : goal.returns
returns c = front_of
