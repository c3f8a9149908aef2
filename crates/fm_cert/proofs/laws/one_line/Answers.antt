use Rattle.fm_cert.proofs.Outsides.{one_line}
use Rattle.fm_cert.proofs.laws.one_line.Goals as goal

pub returns : goal.returns
returns c = one_line
