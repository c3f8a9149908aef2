use Rattle.std.proofs.Common.{refl}
use Rattle.std.proofs.lemmas.Bool.{false≢true}
use Rattle.fm_bank.specs.declared.atom.Atom.{Atom}
use Rattle.fm_readers.proofs.Graphs.{joins_registered}
use Rattle.fm_readers.proofs.Nodes.{atom_at}
use Rattle.fm_readers.proofs.Shows.{equal_by, truth_by, unequal_at}
use Rattle.fm_readers.proofs.due.value_lemma.Goals as goal

pub equality_lemma-requires-clause-atom : goal.equality_lemma-requires-clause-atom
equality_lemma-requires-clause-atom c = atom_at c.args.bank.now c.one_number_per_term.ensures.held c.args.atom.0 (Atom.Equal c.in-Equal.a c.in-Equal.b) c.in-Equal.ensures

pub difference_lemma-requires-clause-atom : goal.difference_lemma-requires-clause-atom
difference_lemma-requires-clause-atom c = atom_at c.args.bank.now c.one_number_per_term.ensures.held c.args.atom.0 (Atom.Equal c.in-Equal.a c.in-Equal.b) c.in-Equal.ensures

pub truth_lemma-requires-clause-atom : goal.truth_lemma-requires-clause-atom
truth_lemma-requires-clause-atom c = atom_at c.args.bank.now c.one_number_per_term.ensures.held c.args.atom.0 (Atom.Pred c.in-Pred.term) c.in-Pred.ensures

pub equality_lemma-requires-clause-equal : goal.equality_lemma-requires-clause-equal
equality_lemma-requires-clause-equal c =
    let t = c.has_tests.ensures in
    equal_by c.args.graph.now t.0 t.1 c.in-Equal.a c.in-Equal.b c.args.positive c.if-positive.true (c.requires.decided (Atom.Equal c.in-Equal.a c.in-Equal.b) t.0 c.in-Equal.ensures t.1)

pub witness-requires-clause-a : goal.witness-requires-clause-a
witness-requires-clause-a c = (joins_registered c.args.bank.now c.args.graph.now c.args.atom (Atom.Equal c.in-Equal.a c.in-Equal.b) c.one_number_per_term.ensures.held c.requires.terms c.in-Equal.ensures refl).0

pub witness-requires-clause-b : goal.witness-requires-clause-b
witness-requires-clause-b c = (joins_registered c.args.bank.now c.args.graph.now c.args.atom (Atom.Equal c.in-Equal.a c.in-Equal.b) c.one_number_per_term.ensures.held c.requires.terms c.in-Equal.ensures refl).1

pub unreachable-requires : goal.unreachable-requires
unreachable-requires c =
    let t = c.has_tests.ensures in
    c.in-None.ensures.none (unequal_at c.args.graph.now t.0 t.1 c.in-Equal.a c.in-Equal.b c.args.positive c.if-positive.false (c.requires.decided (Atom.Equal c.in-Equal.a c.in-Equal.b) t.0 c.in-Equal.ensures t.1))

pub truth_lemma-requires-clause-equal : goal.truth_lemma-requires-clause-equal
truth_lemma-requires-clause-equal c =
    let t = c.has_tests.ensures in
    truth_by c.args.graph.now t.0 t.1 c.in-Pred.term c.args.positive (c.requires.decided (Atom.Pred c.in-Pred.term) t.0 c.in-Pred.ensures t.1)

pub unreachable-requires-in-Card : goal.unreachable-requires-in-Card
unreachable-requires-in-Card c = (let t = c.has_tests.ensures in false≢true (c.requires.decided (Atom.Card c.in-Card.field-0 c.in-Card.field-1) t.0 c.in-Card.ensures t.1))

pub unreachable-requires-in-Bound : goal.unreachable-requires-in-Bound
unreachable-requires-in-Bound c = (let t = c.has_tests.ensures in false≢true (c.requires.decided (Atom.Bound c.in-Bound.field-0) t.0 c.in-Bound.ensures t.1))
