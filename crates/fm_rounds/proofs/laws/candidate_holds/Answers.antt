use Rattle.fm_rounds.proofs.Holds.{candidates_hold}
use Rattle.fm_rounds.proofs.laws.candidate_holds.Goals as goal

pub returns : goal.returns
returns c = candidates_hold
