use Rattle.fm_arena.proofs.Cutting.{taken_stays}
use Rattle.fm_arena.proofs.laws.cutting_keeps_earlier_terms.Goals as goal

pub returns : goal.returns
returns c = taken_stays
