use Rattle.fm_rounds.proofs.Alike.{clauses_agree}
use Rattle.fm_rounds.proofs.laws.clauses_agree.Goals as goal

pub returns : goal.returns
returns c = clauses_agree
