use Rattle.std.proofs.Common.{◌≡◌, map, take}
use Rattle.fm_steps.specs.Lines.{named_step}
use Rattle.fm_lines.proofs.naming.named_steps.Given as goal

abbrev pub invariant-loop-step : goal.invariant-loop-step
invariant-loop-step l = l.named.items ≡ map (named_step l.bank.atoms) (take l.step-index l.steps)
