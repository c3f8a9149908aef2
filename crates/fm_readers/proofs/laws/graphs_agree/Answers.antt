use Rattle.fm_readers.proofs.Agreeing.{tests_agree}
use Rattle.fm_readers.proofs.Classing.{classes_agree, picks_agree}
use Rattle.fm_readers.proofs.Clashing.{clashes_agree}
use Rattle.fm_readers.proofs.laws.graphs_agree.Goals as goal

pub returns-clause-tests : goal.returns-clause-tests
returns-clause-tests c = tests_agree

pub returns-clause-clashes : goal.returns-clause-clashes
returns-clause-clashes c = clashes_agree

pub returns-clause-classes : goal.returns-clause-classes
returns-clause-classes c = classes_agree

pub returns-clause-picks : goal.returns-clause-picks
returns-clause-picks c = picks_agree
