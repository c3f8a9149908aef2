use Rattle.fm_problem.proofs.Tables.{closed_have_tables}
use Rattle.fm_problem.proofs.laws.tables_say_no_more.Goals as goal

pub returns : goal.returns
returns c = closed_have_tables
