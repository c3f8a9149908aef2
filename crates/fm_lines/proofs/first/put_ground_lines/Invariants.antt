use Rattle.std.proofs.Common.{◌≡◌, ◌++◌, drop}
use Rattle.fm_steps.specs.Lines.{ground_lines}
use Rattle.fm_lines.proofs.first.put_ground_lines.Given as goal

-- the lines of the clauses that are left go behind
abbrev pub invariant-loop-number : goal.invariant-loop-number
invariant-loop-number l = l.lines.items ++ ground_lines l.number (drop l.number l.clauses) ≡ l.fn.lines.items ++ ground_lines 0 l.clauses
