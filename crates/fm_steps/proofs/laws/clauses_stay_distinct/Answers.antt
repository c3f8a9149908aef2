use Rattle.fm_steps.proofs.Distinct.{moves_distinct, runs_distinct, starts_distinct, unit_new_in_runs}
use Rattle.fm_steps.proofs.laws.clauses_stay_distinct.Goals as goal

pub returns-clause-start : goal.returns-clause-start
returns-clause-start c = starts_distinct

pub returns-clause-moves : goal.returns-clause-moves
returns-clause-moves c = moves_distinct

pub returns-clause-runs : goal.returns-clause-runs
returns-clause-runs c = runs_distinct

pub returns-clause-unit_lemma : goal.returns-clause-unit_lemma
returns-clause-unit_lemma c = unit_new_in_runs
