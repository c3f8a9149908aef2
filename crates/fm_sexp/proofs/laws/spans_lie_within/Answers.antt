use Rattle.fm_sexp.proofs.Spans.{all_lie}
use Rattle.fm_sexp.proofs.laws.spans_lie_within.Goals as goal

pub returns : goal.returns
returns c = all_lie
