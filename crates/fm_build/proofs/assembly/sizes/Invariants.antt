use Rattle.std.proofs.Common.{◌≡◌, take}
use Rattle.fm_build.specs.Built.{sizes_of}
use Rattle.fm_build.proofs.assembly.sizes.Given as goal

abbrev pub invariant-loop-terms : goal.invariant-loop-terms
invariant-loop-terms l = l.sizes ≡ sizes_of (take l.terms-index l.reps)
