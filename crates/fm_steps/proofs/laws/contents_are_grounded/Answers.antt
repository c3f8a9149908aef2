use Rattle.fm_steps.proofs.Contents.{added_are_terms, contents_are_grounded, runs_have_start_terms, searchable_are_sorted}
use Rattle.fm_steps.proofs.laws.contents_are_grounded.Goals as goal

pub returns-clause-sorted : goal.returns-clause-sorted
returns-clause-sorted c = searchable_are_sorted

pub returns-clause-start : goal.returns-clause-start
returns-clause-start c = runs_have_start_terms

pub returns-clause-added : goal.returns-clause-added
returns-clause-added c = added_are_terms

pub returns-clause-grounded : goal.returns-clause-grounded
returns-clause-grounded c = contents_are_grounded
