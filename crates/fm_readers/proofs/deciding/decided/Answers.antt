use Rattle.std.proofs.Common.{refl}
use Rattle.fm_bank.specs.declared.atom.Atom.{Atom}
use Rattle.fm_readers.proofs.Graphs.{joins_registered}
use Rattle.fm_readers.proofs.deciding.decided.Goals as goal

pub decided_equality-requires-clause-a : goal.decided_equality-requires-clause-a
decided_equality-requires-clause-a c = (joins_registered c.args.bank.now c.args.graph.now c.args.atom (Atom.Equal c.in-Equal.a c.in-Equal.b) c.one_number_per_term.ensures.held c.requires.terms c.in-Equal.ensures refl).0

pub decided_equality-requires-clause-b : goal.decided_equality-requires-clause-b
decided_equality-requires-clause-b c = (joins_registered c.args.bank.now c.args.graph.now c.args.atom (Atom.Equal c.in-Equal.a c.in-Equal.b) c.one_number_per_term.ensures.held c.requires.terms c.in-Equal.ensures refl).1

pub decided_predicate-requires-clause-term : goal.decided_predicate-requires-clause-term
decided_predicate-requires-clause-term c = joins_registered c.args.bank.now c.args.graph.now c.args.atom (Atom.Pred c.in-Pred.term) c.one_number_per_term.ensures.held c.requires.terms c.in-Pred.ensures refl
