use Rattle.fm_readers.proofs.Graphs.{graphs_stay}
use Rattle.fm_readers.proofs.Knowing.{banks_know}
use Rattle.fm_readers.proofs.laws.graphs_stay.Goals as goal

pub returns-clause-stay : goal.returns-clause-stay
returns-clause-stay c = graphs_stay

pub returns-clause-known : goal.returns-clause-known
returns-clause-known c = banks_know
