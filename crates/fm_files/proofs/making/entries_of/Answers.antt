use Rattle.std.specs.BTreeMap.{get_by_text}
use Rattle.fm_files.proofs.Gains.{fresh_then}
use Rattle.fm_files.proofs.making.entries_of.Goals as goal

pub loop-name-preserved : goal.loop-name-preserved
loop-name-preserved c = λ q.
    fresh_then (get_by_text c.loop-name.entries q) (get_by_text c.add_source.new.entries q) c.loop-name.yielded (c.in-Some.name, c.in-Some.bytes) q (c.loop-name.invariant q) (c.in_ok-add_source.ensures q)
