use Rattle.std.proofs.Common.{◌≡◌, drop}
use Rattle.std.specs.Prelude.{nat_lt}
use Rattle.fm_cert.specs.Lines.{total_above}
use Rattle.fm_blocks.proofs.lits.is_below.Given as goal

abbrev pub invariant-loop-k : goal.invariant-loop-k
invariant-loop-k l = nat_lt l.n (total_above l.ks) ≡ nat_lt l.left (total_above (drop l.k-index l.ks))
