use Rattle.std.proofs.Common.{◌≡◌, drop}
use Rattle.fm_base.specs.Interpretations.{reading_of, is_tuple}
use Rattle.fm_blocks.proofs.model.is_tuple.Given as goal

abbrev pub invariant-loop-i : goal.invariant-loop-i
invariant-loop-i l = is_tuple (reading_of l.model) (drop l.i l.types) (drop l.i l.tuple) ≡ is_tuple (reading_of l.model) l.types l.tuple
