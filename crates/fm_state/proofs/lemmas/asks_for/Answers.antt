use Rattle.std.proofs.Common.{sym, ◌∙◌}
use Rattle.fm_state.specs.Groups.{listed}
use Rattle.fm_state.proofs.Opening.{asks_on, asks_some}
use Rattle.fm_state.proofs.lemmas.asks_for.Goals as goal

pub loop-literal-preserved-then-literal_fails : goal.loop-literal-preserved-then-literal_fails
loop-literal-preserved-then-literal_fails c = sym (asks_on c.args.state.now (listed c.loop-literal.left) c.args.literals.now c.loop-literal.literal-index _ c.loop-literal-test.true (sym c.literal_fails.ensures ∙ c.if-literal_fails.true)) ∙ c.loop-literal.invariant

pub returns-then-is_some : goal.returns-then-is_some
returns-then-is_some c = sym (asks_some c.args.state.now c.loop-literal.left c.args.literals.now c.loop-literal.literal-index _ (sym c.is_some.ensures ∙ c.if-is_some.true) c.loop-literal-test.true (sym c.literal_fails.ensures ∙ c.if-literal_fails.false)) ∙ c.loop-literal.invariant
