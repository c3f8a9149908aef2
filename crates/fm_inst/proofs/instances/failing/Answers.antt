use Rattle.std.proofs.Common.{◌≡◌, List, sym, subst}
use Rattle.std.specs.Prelude.{IfOk}
use Rattle.fm_base.specs.Interpretations.{reading_of}
use Rattle.fm_base.proofs.Fitting.{tables-interpret}
use Rattle.fm_bank.specs.declared.clause.Clause.{Clause}
use Rattle.fm_inst.specs.Answers.{found_instance}
use Rattle.fm_inst.specs.Depths.{AreReady}
use Rattle.fm_inst.proofs.Fitting.{fit_tables_ascend}
use Rattle.fm_inst.proofs.Naming.{answer_least, answer_new}
use Rattle.fm_inst.proofs.Scoped.{sorted_ready}
use Rattle.fm_rounds.specs.Failing.{failing_instance, numbered, numbered_reps}
use Rattle.fm_inst.proofs.instances.failing.Goals as goal

pub first_failing-requires-clause-tables : goal.first_failing-requires-clause-tables
first_failing-requires-clause-tables c = fit_tables_ascend c.args.clauses.now.sig c.args.candidate.now.interp c.requires.fits

pub first_failing-requires-clause-ready : goal.first_failing-requires-clause-ready
first_failing-requires-clause-ready c =
    let sig = c.args.clauses.now.sig in
    let i = c.args.candidate.now.interp in
    subst (λ (cs : List Clause). AreReady (reading_of i) cs) (sym c.as_slice.ensures) (sorted_ready sig (reading_of i) (tables-interpret sig i c.requires.fits) c.args.clauses.now.clauses c.requires.sorted)

pub returns-clause-least : goal.returns-clause-least
returns-clause-least c =
    let m = reading_of c.args.candidate.now.interp in
    let reps = numbered_reps c.args.candidate.now.reps in
    answer_least m reps c.args.clauses.now.clauses found_instance c.first_failing.result (subst (λ (cs : List Clause). IfOk c.first_failing.result (λ o. found_instance o ≡ failing_instance m reps cs)) c.as_slice.ensures c.first_failing.ensures)

pub returns-clause-new : goal.returns-clause-new
returns-clause-new c =
    let m = reading_of c.args.candidate.now.interp in
    let reps = numbered_reps c.args.candidate.now.reps in
    answer_new m reps c.args.clauses.now.clauses (numbered c.args.added.now) found_instance c.first_failing.result c.requires.added (subst (λ (cs : List Clause). IfOk c.first_failing.result (λ o. found_instance o ≡ failing_instance m reps cs)) c.as_slice.ensures c.first_failing.ensures)
