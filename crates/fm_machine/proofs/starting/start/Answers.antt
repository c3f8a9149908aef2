use Rattle.fm_machine.proofs.Beginning.{starts_known, starts_tied}
use Rattle.fm_machine.proofs.starting.start.Goals as goal

pub settle-requires-clause-tied : goal.settle-requires-clause-tied
settle-requires-clause-tied c =
    starts_tied c.args.clauses.now c.in_ok-state.state c.bank.result.now c.bank-2.result.now c.in_ok-congruence.congruence c.in_ok-regions.regions c.in_ok-state.ensures c.bank.ensures c.in_ok-congruence.ensures c.bank-2.ensures c.in_ok-regions.ensures

pub settle-requires-clause-known : goal.settle-requires-clause-known
settle-requires-clause-known c = starts_known c.args.clauses.now c.in_ok-state.state c.in_ok-state.ensures
