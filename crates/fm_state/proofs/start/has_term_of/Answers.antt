use Rattle.fm_state.proofs.Starting.{term_is_not_of, term_is_of}
use Rattle.std.proofs.Common.{arith}
use Rattle.fm_state.proofs.start.has_term_of.Goals as goal

pub returns-then-is_of : goal.returns-then-is_of
returns-then-is_of c =
    let lt = c.loop-term-test.true in
    let end = c.terms-term-end.ensures in
    term_is_of c.args.bank.now.sig c.args.sort.0 c.args.bank.now.terms c.loop-term.term c.ty.result c.is_of.result (omega (arith, lt, end)) c.ty.ensures c.is_of.ensures c.if-is_of.true c.loop-term.invariant

pub loop-term-preserved : goal.loop-term-preserved
loop-term-preserved c =
    let lt = c.loop-term-test.true in
    let end = c.terms-term-end.ensures in
    term_is_not_of c.args.bank.now.sig c.args.sort.0 c.args.bank.now.terms c.loop-term.term c.ty.result c.is_of.result (omega (arith, lt, end)) c.ty.ensures c.is_of.ensures c.if-is_of.false c.loop-term.invariant
