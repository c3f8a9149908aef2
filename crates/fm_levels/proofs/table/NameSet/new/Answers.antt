use Rattle.fm_levels.proofs.Tabling.{distinct_texts}
use Rattle.fm_levels.proofs.table.NameSet.new.Goals as goal

pub invariant_of-result : goal.invariant_of-result
invariant_of-result c = distinct_texts c.new.result.keys c.new.ensures.unique
