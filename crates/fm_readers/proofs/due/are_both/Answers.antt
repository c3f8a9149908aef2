use Rattle.fm_readers.proofs.due.are_both.Goals as goal

pub returns-then-same : goal.returns-then-same
returns-then-same c = (λ e. (c.same.ensures.0 c.if-same.true, c.same-then-same.ensures.0 e), λ p. c.same-then-same.ensures.1 p.1)
