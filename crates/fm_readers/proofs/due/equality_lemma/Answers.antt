use Rattle.std.proofs.Common.{List, true, sym, ap, subst, ◌∙◌}
use Rattle.fm_bank.specs.Closure.{object}
use Rattle.fm_bank.specs.Interning.{with_literal}
use Rattle.fm_bank.specs.declared.atom.Atom.{Atom}
use Rattle.fm_bank.specs.declared.literal.Literal.{Literal}
use Rattle.fm_steps.specs.Sizes.{lit}
use Rattle.fm_readers.specs.Shown.{PutsReasons, ShowsValue}
use Rattle.fm_readers.proofs.Nodes.{equality_below}
use Rattle.fm_readers.proofs.Shows.{equality_shown}
use Rattle.fm_readers.proofs.due.equality_lemma.Goals as goal

pub put_equal-requires-clause-a : goal.put_equal-requires-clause-a
put_equal-requires-clause-a c = (equality_below c.args.bank.now c.args.a c.args.b c.requires.atom).0

pub put_equal-requires-clause-b : goal.put_equal-requires-clause-b
put_equal-requires-clause-b c = (equality_below c.args.bank.now c.args.a c.args.b c.requires.atom).1

pub returns : goal.returns
returns c = λ es r.
    let a = c.args.a in
    let b = c.args.b in
    let held = c.args.bank.now in
    let lits = c.put_equal.new.lits.keys in
    let support = c.in_ok-support.support.items in
    let first = c.in_ok-put.ensures ∙ ap (λ (ks : List Literal). with_literal ks (lit true (Atom.Equal a b))) c.new-lits.ensures.empty in
    subst (λ (ks : List Literal). ShowsValue held es (Atom.Equal a b) true ks support) (sym c.in_ok-lits.ensures)
    (equality_shown held es c.one_number_per_term.ensures.held a b lits support c.requires.atom (subst (λ (ks : List Literal). PutsReasons held es (object a.0) (object b.0) ks lits support) first (c.in_ok-support.ensures es r)))
