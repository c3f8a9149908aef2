use Rattle.std.proofs.Common.{◌++◌, ap}
use Rattle.fm_bank.specs.Terms.{number_found}
use Rattle.fm_rounds.specs.InstanceTerms.{as_list}
use Rattle.fm_build.specs.Fresh.{constants_from}
use Rattle.fm_build.proofs.Starting.{constant_put}
use Rattle.fm_build.proofs.start.put_constants.Goals as goal

pub loop-symbol-preserved : goal.loop-symbol-preserved
loop-symbol-preserved c =
    let terms = c.args.bank.now.terms in
    constant_put terms c.loop-symbol.symbol c.args.all c.loop-symbol.found.items c.put_own.new.found.items (c.args.found.now.items ++ constants_from terms c.args.first c.args.all) (as_list (number_found c.find.result)) c.loop-symbol-test.true (ap as_list c.find.ensures) c.in_ok-put_own.ensures c.loop-symbol.invariant
