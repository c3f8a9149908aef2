use Rattle.std.proofs.Common.{◌≡◌, ◌++◌, drop}
use Rattle.fm_steps.specs.Menu.{open_literals}
use Rattle.fm_state.specs.Groups.{asks_for, listed}
use Rattle.fm_state.proofs.lemmas.asks_for.Given as goal

abbrev pub invariant-loop-literal : goal.invariant-loop-literal
invariant-loop-literal l = asks_for l.state (listed l.left ++ open_literals l.state (drop l.literal-index l.literals)) ≡ asks_for l.state (open_literals l.state l.literals)
