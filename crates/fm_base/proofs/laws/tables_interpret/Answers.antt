use Rattle.fm_base.proofs.Fitting.{tables-interpret}
use Rattle.fm_base.proofs.laws.tables_interpret.Goals as goal

pub returns : goal.returns
returns c = tables-interpret
