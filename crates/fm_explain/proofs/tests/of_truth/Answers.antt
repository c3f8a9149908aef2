use Rattle.fm_explain.proofs.Telling.{told_equal}
use Rattle.fm_explain.proofs.tests.of_truth.Goals as goal

pub explain_truth-requires-clause-equal : goal.explain_truth-requires-clause-equal
explain_truth-requires-clause-equal g c = told_equal c.args.graph.now c.args.term.0 c.truth.result c.in-Some.told c.truth.ensures.truth c.in-Some.is
