use Rattle.fm_explain.proofs.random_tests.answer.Goals as goal

pub explain-requires-clause-equal : goal.explain-requires-clause-equal
explain-requires-clause-equal g c = c.same.ensures.0 c.if-same.true
