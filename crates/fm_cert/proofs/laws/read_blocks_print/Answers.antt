use Rattle.fm_cert.proofs.Printable.{printable}
use Rattle.fm_cert.proofs.laws.read_blocks_print.Goals as goal

pub returns : goal.returns
returns c = printable
