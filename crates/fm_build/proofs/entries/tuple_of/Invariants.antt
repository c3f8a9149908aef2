use Rattle.std.proofs.Common.{◌≡◌, map, take}
use Rattle.std.specs.Prelude.{slice_index}
use Rattle.fm_bank.specs.Terms.{numbers}
use Rattle.fm_build.proofs.entries.tuple_of.Given as goal

abbrev pub invariant-loop-arg : goal.invariant-loop-arg
invariant-loop-arg l = l.tuple ≡ map (λ n. slice_index l.elements n) (numbers (take l.arg-index l.args))
