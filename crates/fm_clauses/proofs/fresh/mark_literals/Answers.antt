use Rattle.std.proofs.Common.{ℕ}
use Rattle.fm_bank.specs.declared.clause.Plit.{Plit}
use Rattle.fm_clauses.specs.Assertions.{atom_has_ground}
use Rattle.fm_clauses.proofs.Marking.{marks_end, marks_more}
use Rattle.fm_clauses.proofs.fresh.mark_literals.Goals as goal

pub loop-lit-preserved : goal.loop-lit-preserved
loop-lit-preserved c = λ last rest.
    c.loop-lit.invariant last (marks_more (λ (l : Plit) (s : ℕ). atom_has_ground c.args.sig.now s l.atom) c.args.lits.now c.loop-lit.lit-index c.lit-item.result c.loop-lit-test.true c.lit-item.is c.loop-lit.marks.items c.mark_atom.new.marks.items last c.mark_atom.ensures rest)

pub returns : goal.returns
returns c = c.loop-lit.invariant c.loop-lit.marks.items (marks_end (λ (l : Plit) (s : ℕ). atom_has_ground c.args.sig.now s l.atom) c.args.lits.now c.loop-lit.lit-index c.loop-lit-test.false c.loop-lit.marks.items)
