use Rattle.fm_trail.proofs.Counting.{entries_most}
use Rattle.fm_trail.proofs.trail.Trail.entries_are_few.Goals as goal

pub returns : goal.returns
returns c = λ n over. entries_most n c.args.self.now.entries c.entries_are_levelled.ensures.once over
