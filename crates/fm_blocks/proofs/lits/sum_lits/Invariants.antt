use Rattle.std.proofs.Common.{◌≡◌, ◌++◌, drop}
use Rattle.fm_cert.specs.Lines.{sum_clause}
use Rattle.fm_blocks.proofs.lits.sum_lits.Given as goal

abbrev pub invariant-loop-sort : goal.invariant-loop-sort
invariant-loop-sort l = l.lits.items ++ sum_clause l.sort (drop l.sort l.ks) l.n ≡ sum_clause 0 l.ks l.n
