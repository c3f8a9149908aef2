use Rattle.fm_steps.proofs.Numbered.{instance_fails, sat_is_met}
use Rattle.fm_steps.proofs.Offered.{false_new, raise_is_met, unit_new}
use Rattle.fm_steps.proofs.laws.offers_are_met.Goals as goal

pub returns-clause-raise : goal.returns-clause-raise
returns-clause-raise c = raise_is_met

pub returns-clause-false_lemma : goal.returns-clause-false_lemma
returns-clause-false_lemma c = false_new

pub returns-clause-unit_lemma : goal.returns-clause-unit_lemma
returns-clause-unit_lemma c = unit_new

pub returns-clause-sat : goal.returns-clause-sat
returns-clause-sat c = sat_is_met

pub returns-clause-instance : goal.returns-clause-instance
returns-clause-instance c = instance_fails
