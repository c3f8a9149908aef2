use Rattle.std.proofs.Common.{◌≡◌, take}
use Rattle.fm_bank.specs.Terms.{numbers}
use Rattle.fm_build.proofs.instances.numbers_of.Given as goal

abbrev pub invariant-loop-term : goal.invariant-loop-term
invariant-loop-term l = l.numbers.items ≡ numbers (take l.term-index l.terms)
