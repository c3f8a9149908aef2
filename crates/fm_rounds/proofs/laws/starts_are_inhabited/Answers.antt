use Rattle.fm_rounds.proofs.Freshness.{fresh_constants_fit}
use Rattle.fm_rounds.proofs.Meeting.{starts_are_inhabited}
use Rattle.fm_rounds.proofs.laws.starts_are_inhabited.Goals as goal

pub returns : goal.returns
returns c = record { inhabited = starts_are_inhabited; fresh = fresh_constants_fit }
