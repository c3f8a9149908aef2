use Rattle.std.proofs.Common.{◌++◌, arith}
use Rattle.fm_steps.specs.Lines.{lines_from}
use Rattle.fm_lines.proofs.Placed.{terms_next}
use Rattle.fm_lines.proofs.events.put_terms.Goals as goal

pub loop-term-preserved : goal.loop-term-preserved
loop-term-preserved c =
    let terms = c.args.bank.now.terms in
    let put = c.in_ok-put_term.ensures in
    let lt = c.loop-term-test.true in
    let end = c.terms-term-end.ensures in
    terms_next c.loop-term.lines.items c.put_term.new.lines.items (c.args.lines.now.items ++ lines_from c.args.first terms) terms c.loop-term.term put.0 (omega (arith, lt, end)) put.1 put.2 c.loop-term.invariant
