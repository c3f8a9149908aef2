use Rattle.fm_rounds.proofs.AddedTrue.{added_are_true}
use Rattle.fm_rounds.proofs.Settling.{instances_are_reached}
use Rattle.fm_rounds.proofs.laws.instances_are_reached.Goals as goal

pub returns : goal.returns
returns c = record { reached = instances_are_reached; added = added_are_true }
