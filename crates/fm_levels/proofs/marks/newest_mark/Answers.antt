use Rattle.fm_levels.proofs.Leveling.{last_at}
use Rattle.fm_levels.proofs.marks.newest_mark.Goals as goal

pub returns : goal.returns
returns c = last_at c.args.marks.now 0 c.if-count-lt1.false
