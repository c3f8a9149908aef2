use Rattle.std.proofs.Common.{refl, ap, subst}
use Rattle.std.specs.Prelude.{slice_get}
use Rattle.fm_bank.specs.declared.atom.Atom.{Atom}
use Rattle.fm_cong.specs.Held.{JoinsRegistered}
use Rattle.fm_cong.specs.Held.{Held as Graph}
use Rattle.fm_readers.proofs.Graphs.{joins_registered, one_atom, terms_read}
use Rattle.fm_readers.proofs.graph.read_literal.Goals as goal

pub read_fact-requires-clause-readable : goal.read_fact-requires-clause-readable
read_fact-requires-clause-readable c = λ a at.
    let here : Atom = Atom.Equal c.in-Equal.field-0 c.in-Equal.field-1 in
    subst (JoinsRegistered c.args.graph.now.shapes) (one_atom (slice_get c.args.bank.now.atoms c.args.atom.0) here a c.in-Equal.ensures at) (joins_registered c.args.bank.now c.args.graph.now c.args.atom here c.one_number_per_term.ensures.held c.requires.terms c.in-Equal.ensures refl)

pub read_fact-requires-in-Pred-clause-readable : goal.read_fact-requires-in-Pred-clause-readable
read_fact-requires-in-Pred-clause-readable c = λ a at.
    let here : Atom = Atom.Pred c.in-Pred.field-0 in
    subst (JoinsRegistered c.args.graph.now.shapes) (one_atom (slice_get c.args.bank.now.atoms c.args.atom.0) here a c.in-Pred.ensures at) (joins_registered c.args.bank.now c.args.graph.now c.args.atom here c.one_number_per_term.ensures.held c.requires.terms c.in-Pred.ensures refl)

pub returns-in_ok-read_fact-in-Equal-clause-terms : goal.returns-in_ok-read_fact-in-Equal-clause-terms
returns-in_ok-read_fact-in-Equal-clause-terms c = terms_read c.args.bank.now _ c.args.graph.now c.read_fact.new.graph _ c.requires.terms (c.in_ok-read_fact-in-Equal.ensures (Atom.Equal c.in-Equal.field-0 c.in-Equal.field-1) c.in-Equal.ensures)

pub returns-in_ok-read_fact-in-Equal-clause-levels : goal.returns-in_ok-read_fact-in-Equal-clause-levels
returns-in_ok-read_fact-in-Equal-clause-levels c = ap (λ (x : Graph). x.levels) (c.in_ok-read_fact-in-Equal.ensures (Atom.Equal c.in-Equal.field-0 c.in-Equal.field-1) c.in-Equal.ensures)

pub returns-in_ok-read_fact-in-Pred-clause-terms : goal.returns-in_ok-read_fact-in-Pred-clause-terms
returns-in_ok-read_fact-in-Pred-clause-terms c = terms_read c.args.bank.now _ c.args.graph.now c.read_fact-in-Pred.new.graph _ c.requires.terms (c.in_ok-read_fact-in-Pred.ensures (Atom.Pred c.in-Pred.field-0) c.in-Pred.ensures)

pub returns-in_ok-read_fact-in-Pred-clause-levels : goal.returns-in_ok-read_fact-in-Pred-clause-levels
returns-in_ok-read_fact-in-Pred-clause-levels c = ap (λ (x : Graph). x.levels) (c.in_ok-read_fact-in-Pred.ensures (Atom.Pred c.in-Pred.field-0) c.in-Pred.ensures)
