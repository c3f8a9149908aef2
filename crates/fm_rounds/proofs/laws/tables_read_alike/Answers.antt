use Rattle.fm_rounds.proofs.ReadAlike.{tables_read_alike}
use Rattle.fm_rounds.proofs.laws.tables_read_alike.Goals as goal

pub returns : goal.returns
returns c = tables_read_alike
