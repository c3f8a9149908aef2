use Rattle.std.proofs.Common.{◌≡◌, replicate}
use Rattle.fm_thin.specs.Certified.{zero_table}
use Rattle.fm_thin.proofs.certify.tables_for.Given as goal

abbrev pub invariant-loop-i : goal.invariant-loop-i
invariant-loop-i l = l.tables.items ≡ replicate l._i zero_table
