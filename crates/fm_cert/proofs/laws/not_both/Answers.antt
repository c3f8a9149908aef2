use Rattle.fm_cert.proofs.Outsides.{not_both}
use Rattle.fm_cert.proofs.laws.not_both.Goals as goal

pub returns : goal.returns
returns c = not_both
