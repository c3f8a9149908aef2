use Rattle.fm_clauses.proofs.ModelLaws.{expand, models, shape}
use Rattle.fm_clauses.proofs.laws.table_says_the_same.Goals as goal

pub returns : goal.returns
returns c = record { models = models; expand = expand; shape = shape }
