use Rattle.std.proofs.Common.{◌≡◌, ◌≤◌, take}
use Rattle.fm_inst.specs.Prefixes.{beyond}
use Rattle.fm_inst.proofs.prefixes.advance.Given as goal

abbrev pub invariant-loop-left : goal.invariant-loop-left
invariant-loop-left l = record {
  within : l.left ≤ l.depth;
  left_out : beyond l.sizes (take l.left l.env) ≡ beyond l.sizes (take l.depth l.fn.env);
  same : l.env ≡ l.fn.env;
}

abbrev pub decreases-loop-left : goal.decreases-loop-left
decreases-loop-left l = l.left
