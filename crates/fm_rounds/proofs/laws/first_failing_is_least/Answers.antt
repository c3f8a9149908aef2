use Rattle.fm_rounds.proofs.FirstFailing.{first_failing_is}
use Rattle.fm_rounds.proofs.Newness.{failing_is_new}
use Rattle.fm_rounds.proofs.laws.first_failing_is_least.Goals as goal

pub returns : goal.returns
returns c = record { least = first_failing_is; new = failing_is_new }
