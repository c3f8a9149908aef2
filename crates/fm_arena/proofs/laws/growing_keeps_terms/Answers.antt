use Rattle.fm_arena.proofs.Cutting.{front_stays}
use Rattle.fm_arena.proofs.laws.growing_keeps_terms.Goals as goal

pub returns : goal.returns
returns c = front_stays
