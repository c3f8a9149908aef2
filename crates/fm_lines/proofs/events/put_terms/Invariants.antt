use Rattle.std.proofs.Common.{◌≡◌, ◌++◌}
use Rattle.fm_steps.specs.Lines.{lines_from}
use Rattle.fm_lines.proofs.events.put_terms.Given as goal

-- the lines of the terms that are left go behind
abbrev pub invariant-loop-term : goal.invariant-loop-term
invariant-loop-term l = l.lines.items ++ lines_from l.term l.bank.terms ≡ l.fn.lines.items ++ lines_from l.first l.bank.terms
