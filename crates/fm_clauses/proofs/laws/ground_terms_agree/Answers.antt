use Rattle.fm_clauses.proofs.GroundsAgree.{ground_terms_agree}
use Rattle.fm_clauses.proofs.laws.ground_terms_agree.Goals as goal

pub returns : goal.returns
returns c = ground_terms_agree
