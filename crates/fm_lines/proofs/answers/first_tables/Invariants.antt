use Rattle.std.proofs.Common.{◌≡◌, take}
use Rattle.fm_lines.proofs.answers.first_tables.Given as goal

abbrev pub invariant-loop-place : goal.invariant-loop-place
invariant-loop-place l = l.copied.items ≡ take l.place l.tables
