use Rattle.fm_sexp.proofs.Existence.{each_text}
use Rattle.fm_sexp.proofs.laws.one_of_both.Goals as goal

pub returns : goal.returns
returns c = each_text
