use Rattle.fm_bank.specs.declared.clause.Plit.{Plit}
use Rattle.fm_clauses.specs.Narrow.{occurs_in_atom}
use Rattle.fm_clauses.proofs.Listings.{lists_end, lists_more}
use Rattle.fm_clauses.proofs.scoped.list_literals.Goals as goal

pub loop-lit-preserved : goal.loop-lit-preserved
loop-lit-preserved c = λ last rest.
    c.loop-lit.invariant last (lists_more (λ (l : Plit). occurs_in_atom l.atom) c.args.lits.now c.loop-lit.lit-index c.lit-item.result c.loop-lit-test.true c.lit-item.is c.loop-lit.found.items c.list_atom.new.found.items last c.in_ok-list_atom.ensures rest)

pub returns : goal.returns
returns c = c.loop-lit.invariant c.loop-lit.found.items (lists_end (λ (l : Plit). occurs_in_atom l.atom) c.args.lits.now c.loop-lit.lit-index c.loop-lit-test.false c.loop-lit.found.items)
