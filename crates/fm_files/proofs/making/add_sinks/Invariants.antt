use Rattle.std.proofs.Common.{List, ℕ}
use Rattle.std.specs.BTreeMap.{get_by_text}
use Rattle.fm_files.specs.Entries.{GainsSink}
use Rattle.fm_files.specs.Memory.{is_named}
use Rattle.fm_files.proofs.making.add_sinks.Given as goal

abbrev pub invariant-loop-name : goal.invariant-loop-name
invariant-loop-name l = (q : List ℕ) → GainsSink (get_by_text l.fn.entries q) (get_by_text l.entries q) (is_named l.yielded q) l.room
