use Rattle.fm_guide.proofs.Terms.{same_terms}
use Rattle.fm_guide.proofs.event.are_same.Goals as goal

pub returns : goal.returns
returns c = same_terms c.eq.result c.args.ts.now c.args.us.now c.eq.ensures
