use Rattle.fm_explain.proofs.Knowing.{going_back_keeps, growing_keeps, nothing_known, opening_keeps, reading_keeps, registering_keeps, settling_keeps}
use Rattle.fm_explain.proofs.laws.graphs_stay_known.Goals as goal

pub returns-clause-nothing : goal.returns-clause-nothing
returns-clause-nothing c = nothing_known

pub returns-clause-registering : goal.returns-clause-registering
returns-clause-registering c = registering_keeps

pub returns-clause-reading : goal.returns-clause-reading
returns-clause-reading c = reading_keeps

pub returns-clause-settling : goal.returns-clause-settling
returns-clause-settling c = settling_keeps

pub returns-clause-growing : goal.returns-clause-growing
returns-clause-growing c = growing_keeps

pub returns-clause-opening : goal.returns-clause-opening
returns-clause-opening c = opening_keeps

pub returns-clause-going_back : goal.returns-clause-going_back
returns-clause-going_back c = going_back_keeps
