use Rattle.std.proofs.Common.{◌≡◌, ◌++◌, true, map, take}
use Rattle.fm_bank.specs.Instances.{equality}
use Rattle.fm_bank.specs.Terms.{numbers}
use Rattle.fm_steps.specs.Sizes.{lit}
use Rattle.fm_machine.proofs.settling.put_with.Given as goal

abbrev pub invariant-loop-b : goal.invariant-loop-b
invariant-loop-b l = l.lits.items ≡ l.fn.lits.items ++ map (λ c. lit true (equality l.a.0 c)) (numbers (take l.b-index l.others))
