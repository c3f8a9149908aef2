use Rattle.std.proofs.Common.{◌≡◌, ◌++◌}
use Rattle.fm_build.specs.Fresh.{constants_from}
use Rattle.fm_build.proofs.start.put_constants.Given as goal

-- what the rest has goes behind
abbrev pub invariant-loop-symbol : goal.invariant-loop-symbol
invariant-loop-symbol l = l.found.items ++ constants_from l.bank.terms l.symbol l.all ≡ l.fn.found.items ++ constants_from l.bank.terms l.first l.all
