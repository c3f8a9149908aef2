use Rattle.std.proofs.Common.{◌≡◌, ◌++◌}
use Rattle.std.specs.List.{range_with_len}
use Rattle.fm_steps.specs.Lines.{element_lines}
use Rattle.fm_lines.proofs.first.put_element_lines.Given as goal

abbrev pub invariant-loop-sort : goal.invariant-loop-sort
invariant-loop-sort l = l.lines.items ≡ l.fn.lines.items ++ element_lines (range_with_len 0 l.sort)
