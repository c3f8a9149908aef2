use Rattle.fm_levels.proofs.Tabling.{apart_values}
use Rattle.fm_levels.proofs.table.Table.new.Goals as goal

pub invariant_of-result : goal.invariant_of-result
invariant_of-result g c = apart_values c.new.result.entries c.new.ensures.unique
