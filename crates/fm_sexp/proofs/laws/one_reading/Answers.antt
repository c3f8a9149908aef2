use Rattle.fm_sexp.proofs.Machine.{same_items}
use Rattle.fm_sexp.proofs.laws.one_reading.Goals as goal

pub returns : goal.returns
returns c = same_items
