use Rattle.fm_readers.proofs.Values.{truth_decided}
use Rattle.fm_readers.proofs.deciding.decided_predicate.Goals as goal

pub returns : goal.returns
returns c = λ t tests. truth_decided c.args.graph.now t tests c.args.term c.truth.result c.truth.ensures.truth
