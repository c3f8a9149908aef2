use Rattle.std.proofs.Common.{List, ℕ}
use Rattle.std.specs.BTreeMap.{get_by_text}
use Rattle.fm_files.specs.Entries.{IsFresh}
use Rattle.fm_files.specs.Memory.{content_of}
use Rattle.fm_files.proofs.making.entries_of.Given as goal

abbrev pub invariant-loop-name : goal.invariant-loop-name
invariant-loop-name l = (q : List ℕ) → IsFresh (get_by_text l.entries q) (content_of l.yielded q)
