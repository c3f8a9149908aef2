use Rattle.std.proofs.Common.{◌≡◌, ◌++◌, true, take, map}
use Rattle.fm_bank.specs.Instances.{equality}
use Rattle.fm_bank.specs.Terms.{numbers}
use Rattle.fm_steps.specs.Sizes.{lit}
use Rattle.fm_state.proofs.lemmas.put_equalities.Given as goal

abbrev pub invariant-loop-b : goal.invariant-loop-b
invariant-loop-b l = l.literals.items ≡ l.fn.literals.items ++ map (λ b. lit true (equality l.a.0 b)) (numbers (take l.b-index l.others))
