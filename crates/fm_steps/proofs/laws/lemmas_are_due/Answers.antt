use Rattle.fm_steps.proofs.Shown.{imply_is_due, lemma_is_due}
use Rattle.fm_steps.proofs.laws.lemmas_are_due.Goals as goal

pub returns-clause-lemma : goal.returns-clause-lemma
returns-clause-lemma c = lemma_is_due

pub returns-clause-imply : goal.returns-clause-imply
returns-clause-imply c = imply_is_due
