use Rattle.std.proofs.Common.{sym, ◌∙◌}
use Rattle.std.proofs.lemmas.Bool.{false≢true}
use Rattle.fm_readers.proofs.Values.{equal_decided, open_decided, unequal_decided}
use Rattle.fm_readers.proofs.deciding.decided_equality.Goals as goal

pub returns-then-same : goal.returns-then-same
returns-then-same c = λ t tests. equal_decided c.args.graph.now t tests c.args.a c.args.b (c.same.ensures.0 c.if-same.true)

pub returns-then-apart : goal.returns-then-apart
returns-then-apart c = λ t tests.
    unequal_decided c.args.graph.now t tests c.args.a c.args.b (λ e. false≢true (sym c.if-same.false ∙ c.same.ensures.1 e)) (c.apart.ensures.0 c.if-apart.true)

pub returns-else-apart : goal.returns-else-apart
returns-else-apart c = λ t tests.
    open_decided c.args.graph.now t tests c.args.a c.args.b (λ e. false≢true (sym c.if-same.false ∙ c.same.ensures.1 e)) (λ e. false≢true (sym c.if-apart.false ∙ c.apart.ensures.1 e))
