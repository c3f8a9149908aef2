use Rattle.fm_rounds.proofs.Fits.{tables_are_written}
use Rattle.fm_rounds.proofs.Unique.{tables_have_one_form}
use Rattle.fm_rounds.proofs.laws.tables_are_written.Goals as goal

pub returns : goal.returns
returns c = record { written = tables_are_written; form = tables_have_one_form }
