use Rattle.fm_lines.proofs.GoingOn.{lemmas_go_on, lemmas_settle, lines_stay, rows_go_on}
use Rattle.fm_lines.proofs.laws.lines_go_on.Goals as goal

pub returns-clause-rows : goal.returns-clause-rows
returns-clause-rows c = rows_go_on

pub returns-clause-lemmas : goal.returns-clause-lemmas
returns-clause-lemmas c = lemmas_go_on

pub returns-clause-settled : goal.returns-clause-settled
returns-clause-settled c = lemmas_settle

pub returns-clause-same : goal.returns-clause-same
returns-clause-same c = lines_stay
