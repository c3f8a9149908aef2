use Rattle.std.proofs.Common.{◌≡◌, take}
use Rattle.fm_lines.proofs.answers.copy_exceptions.Given as goal

abbrev pub invariant-loop-exception : goal.invariant-loop-exception
invariant-loop-exception l = l.copied.items ≡ take l.exception-index l.except
