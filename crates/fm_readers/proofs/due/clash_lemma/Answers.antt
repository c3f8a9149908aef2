use Rattle.std.proofs.Common.{subst}
use Rattle.fm_bank.specs.declared.atom.Atom.{Atom}
use Rattle.fm_cong.specs.Clashes.{IsClash}
use Rattle.fm_readers.proofs.Nodes.{atom_at}
use Rattle.fm_readers.proofs.Shows.{clash_shown, false_there, sides_equal}
use Rattle.fm_readers.proofs.due.clash_lemma.Goals as goal

pub equality_lemma-requires-clause-atom : goal.equality_lemma-requires-clause-atom
equality_lemma-requires-clause-atom c = atom_at c.args.bank.now c.one_number_per_term.ensures.held c.in-Facts.atom.0 (Atom.Equal c.in-Equal.a c.in-Equal.b) c.in-Equal.ensures

pub equality_lemma-requires-clause-equal : goal.equality_lemma-requires-clause-equal
equality_lemma-requires-clause-equal c =
    sides_equal c.args.bank.now c.args.graph.now c.in-Facts.atom c.requires.known (subst (IsClash c.args.graph.now) c.in-Facts.is c.requires.clash) c.in-Equal.a c.in-Equal.b c.in-Equal.ensures

pub returns-in_ok-lemma-in-Equal : goal.returns-in_ok-lemma-in-Equal
returns-in_ok-lemma-in-Equal c = λ es r.
    let h = subst (IsClash c.args.graph.now) c.in-Facts.is c.requires.clash in
    let there = false_there c.args.bank.now c.args.graph.now c.in-Facts.atom c.requires.known h es c.one_number_per_term.ensures.held c.in-Equal.a c.in-Equal.b r c.in-Equal.ensures in
    let m = c.in_ok-lemma-in-Equal.lemma in
    clash_shown c.args.bank.now es c.one_number_per_term.ensures.held c.args.graph.now r c.in-Equal.a c.in-Equal.b m.lits.items m.support.items there (c.in_ok-lemma-in-Equal.ensures es r)
