use Rattle.std.proofs.Common.{ℕ, List, subst}
use Rattle.fm_bank.specs.declared.clause.Clause.{Clause}
use Rattle.fm_bank.specs.declared.clause.Plit.{Plit}
use Rattle.fm_clauses.specs.Marked.{Marks, literals_have}
use Rattle.fm_clauses.specs.Assertions.{clause_has_ground}
use Rattle.fm_clauses.proofs.Marking.{marks_end, marks_more}
use Rattle.fm_clauses.proofs.fresh.mark_clauses.Goals as goal

pub loop-clause-preserved : goal.loop-clause-preserved
loop-clause-preserved c = λ last rest.
    c.loop-clause.invariant last (marks_more (λ (d : Clause) (s : ℕ). clause_has_ground c.args.sig.now s d) c.args.clauses.now c.loop-clause.clause-index c.clause-item.result c.loop-clause-test.true c.clause-item.is c.loop-clause.marks.items c.mark_literals.new.marks.items last (subst (λ (ls : List Plit). Marks (literals_have c.args.sig.now ls) c.loop-clause.marks.items c.mark_literals.new.marks.items) c.as_slice.ensures c.mark_literals.ensures) rest)

pub returns : goal.returns
returns c = c.loop-clause.invariant c.loop-clause.marks.items (marks_end (λ (d : Clause) (s : ℕ). clause_has_ground c.args.sig.now s d) c.args.clauses.now c.loop-clause.clause-index c.loop-clause-test.false c.loop-clause.marks.items)
