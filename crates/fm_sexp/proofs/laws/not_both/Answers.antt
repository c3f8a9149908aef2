use Rattle.fm_sexp.proofs.Uniqueness.{never_both}
use Rattle.fm_sexp.proofs.laws.not_both.Goals as goal

pub returns : goal.returns
returns c = never_both
