use Rattle.std.proofs.Common.{◌≡◌, ◌+◌, drop}
use Rattle.fm_base.specs.Interpretations.{reading_of}
use Rattle.fm_blocks.specs.ModelLines.{bad_in_tables, lines_of_tables}
use Rattle.fm_blocks.proofs.model.bad_in_tables.Given as goal

abbrev pub invariant-loop-i : goal.invariant-loop-i
invariant-loop-i l = record {
  same : bad_in_tables (reading_of l.model) l.line (drop l.i l.ranks) (drop l.i l.tables) ≡ bad_in_tables (reading_of l.model) l.at l.ranks l.tables;
  line : l.line + lines_of_tables (drop l.i l.tables) ≡ l.at + lines_of_tables l.tables;
}
