use Rattle.fm_blocks.proofs.TextFaults.{one_first_fault}
use Rattle.fm_blocks.proofs.laws.one_first_fault.Goals as goal

pub returns : goal.returns
returns c = one_first_fault
