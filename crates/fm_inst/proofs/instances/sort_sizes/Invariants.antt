use Rattle.std.proofs.Common.{◌≡◌, take}
use Rattle.fm_base.specs.Interpretations.{reading_of}
use Rattle.fm_rounds.specs.Failing.{sizes_of}
use Rattle.fm_inst.proofs.instances.sort_sizes.Given as goal

abbrev pub invariant-loop-sort : goal.invariant-loop-sort
invariant-loop-sort l = l.sizes.items ≡ sizes_of (reading_of l.interp) (take l.sort-index l.vars)
