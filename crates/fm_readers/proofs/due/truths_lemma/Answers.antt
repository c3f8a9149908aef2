use Rattle.std.proofs.Common.{List, true, false, sym, ap, subst, ◌∙◌}
use Rattle.fm_bank.specs.Closure.{object}
use Rattle.fm_bank.specs.Interning.{with_literal}
use Rattle.fm_bank.specs.declared.atom.Atom.{Atom}
use Rattle.fm_bank.specs.declared.literal.Literal.{Literal}
use Rattle.fm_steps.specs.Sizes.{lit}
use Rattle.fm_readers.specs.Shown.{PutsReasons, ShowsClash}
use Rattle.fm_readers.proofs.Shows.{truth_below, truths_shown}
use Rattle.fm_readers.proofs.due.truths_lemma.Goals as goal

pub put_equal-requires-clause-a : goal.put_equal-requires-clause-a
put_equal-requires-clause-a c = truth_below c.args.bank.now c.one_number_per_term.ensures.held c.args.graph.now c.requires.known true c.args.p c.requires.truths.holds

pub put_equal-requires-clause-b : goal.put_equal-requires-clause-b
put_equal-requires-clause-b c = truth_below c.args.bank.now c.one_number_per_term.ensures.held c.args.graph.now c.requires.known false c.args.q c.requires.truths.fails

pub returns : goal.returns
returns c = λ es r.
    let p = c.args.p in
    let q = c.args.q in
    let held = c.args.bank.now in
    let lits = c.put_equal.new.lits.keys in
    let support = c.in_ok-support.support.items in
    let first = c.in_ok-put.ensures ∙ ap (λ (ks : List Literal). with_literal ks (lit false (Atom.Pred p))) c.new-lits.ensures.empty in
    let second = c.in_ok-put-2.ensures ∙ ap (λ (ks : List Literal). with_literal ks (lit true (Atom.Pred q))) first in
    subst (λ (ks : List Literal). ShowsClash held es ks support) (sym c.in_ok-lits.ensures)
    (truths_shown held es c.one_number_per_term.ensures.held c.args.graph.now r p q lits support c.requires.truths (subst (λ (ks : List Literal). PutsReasons held es (object p.0) (object q.0) ks lits support) second (c.in_ok-support.ensures es r)))
