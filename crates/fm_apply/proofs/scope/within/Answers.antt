use Rattle.std.proofs.Common.{sym, ◌∙◌}
use Rattle.fm_apply.proofs.Naming.{none_zipped, within_none, within_some}
use Rattle.fm_apply.proofs.scope.within.Goals as goal

pub returns-in_err-low : goal.returns-in_err-low
returns-in_err-low c =
    c.from_residual.ensures ∙ sym (none_zipped 0 c.args.name.now c.args.names.now c.args.numbers.now (sym c.in_err-low.ensures.place))

pub returns-in-None : goal.returns-in-None
returns-in-None c =
    within_none c.in_ok-low.low c.args.name.now c.args.names.now c.args.numbers.now c.place.ensures.apart (sym c.in_ok-low.ensures.place) c.in-None.ensures.lookup.3

pub returns-in-Some : goal.returns-in-Some
returns-in-Some c =
    within_some c.in_ok-low.low c.in-Some.number.now 0 c.args.name.now c.args.names.now c.args.numbers.now c.place.ensures.apart (sym c.in_ok-low.ensures.place) c.in-Some.ensures.lookup.3.0 (c.in-Some.ensures.lookup.3.1 0)
