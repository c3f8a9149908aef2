use Rattle.fm_bank.proofs.GroundGrowing.{ground_agree}
use Rattle.fm_bank.proofs.laws.ground_clauses_agree.Goals as goal

pub returns : goal.returns
returns c = ground_agree
