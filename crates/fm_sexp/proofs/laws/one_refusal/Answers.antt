use Rattle.fm_sexp.proofs.Uniqueness.{same_refusal}
use Rattle.fm_sexp.proofs.laws.one_refusal.Goals as goal

pub returns : goal.returns
returns c = same_refusal
