use Rattle.std.proofs.Common.{◌<◌, length, ◌∙◌, arith}
use Rattle.fm_readers.proofs.Graphs.{has_arguments, terms_next}
use Rattle.fm_readers.proofs.graph.register.Goals as goal

pub add_term-requires-clause-args : goal.add_term-requires-clause-args
add_term-requires-clause-args c =
    let lt : c.loop-term.term < length c.args.bank.now.terms = (let a = c.loop-term-test.true in let b = c.terms-term-end.ensures in omega (arith, a, b)) in
    has_arguments c.args.bank.now c.loop-term.term c.loop-term.graph c.one_number_per_term.ensures.held c.loop-term.invariant.terms (omega (arith, lt))

pub loop-term-preserved : goal.loop-term-preserved
loop-term-preserved c =
    let r = c.in_ok-add_term.ensures.registered in
    record {
      terms = terms_next c.args.bank.now c.loop-term.term c.loop-term.graph c.add_term.new.self c.loop-term.invariant.terms r c.in_ok-add_term.ensures.types;
      facts = r.facts ∙ c.loop-term.invariant.facts;
      levels = r.levels ∙ c.loop-term.invariant.levels;
    }
