use Rattle.std.proofs.Common.{◌≡◌, drop}
use Rattle.fm_base.specs.Interpretations.{reading_of, are_tables}
use Rattle.fm_truth.proofs.tables.have_tables.Given as goal

abbrev pub invariant-loop-i : goal.invariant-loop-i
invariant-loop-i l = are_tables (reading_of l.interp) (drop l.i l.ranks) (drop l.i l.tables) ≡ are_tables (reading_of l.interp) l.ranks l.tables
