use Rattle.std.proofs.Common.{◌≡◌, drop}
use Rattle.fm_base.specs.Interpretations.{ascends, ascends_after}
use Rattle.fm_truth.proofs.tables.ascend.Given as goal

abbrev pub invariant-loop-exception : goal.invariant-loop-exception
invariant-loop-exception l = ascends_after l.last (drop l.exception-index l.rest) ≡ ascends l.except
