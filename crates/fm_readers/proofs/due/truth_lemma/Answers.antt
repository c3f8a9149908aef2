use Rattle.std.proofs.Common.{List, sym, ap, subst, ◌∙◌}
use Rattle.fm_bank.specs.Closure.{object}
use Rattle.fm_bank.specs.Interning.{with_literal}
use Rattle.fm_bank.specs.declared.atom.Atom.{Atom}
use Rattle.fm_bank.specs.declared.literal.Literal.{Literal}
use Rattle.fm_explain.specs.Explanations.{truth_node}
use Rattle.fm_steps.specs.Sizes.{lit}
use Rattle.fm_readers.specs.Shown.{PutsReasons, ShowsValue}
use Rattle.fm_readers.proofs.Nodes.{predicate_below}
use Rattle.fm_readers.proofs.Shows.{truth_shown}
use Rattle.fm_readers.proofs.due.truth_lemma.Goals as goal

pub put_truth-requires-clause-term : goal.put_truth-requires-clause-term
put_truth-requires-clause-term c = predicate_below c.args.bank.now c.args.term c.requires.atom

pub returns : goal.returns
returns c = λ es r.
    let t = c.args.term in
    let truth = c.args.truth in
    let held = c.args.bank.now in
    let lits = c.put_truth.new.lits.keys in
    let support = c.in_ok-support.support.items in
    let first = c.in_ok-put.ensures ∙ ap (λ (ks : List Literal). with_literal ks (lit truth (Atom.Pred t))) c.new-lits.ensures.empty in
    subst (λ (ks : List Literal). ShowsValue held es (Atom.Pred t) truth ks support) (sym c.in_ok-lits.ensures)
    (truth_shown held es c.one_number_per_term.ensures.held t truth lits support c.requires.atom (subst (λ (ks : List Literal). PutsReasons held es (object t.0) (truth_node truth) ks lits support) first (c.in_ok-support.ensures es r)))
