use Rattle.std.proofs.Common.{◌≡◌, ◌+◌, Some, drop}
use Rattle.fm_base.specs.Interpretations.{reading_of}
use Rattle.fm_blocks.specs.ModelLines.{bad_exception}
use Rattle.fm_blocks.proofs.model.bad_behind.Given as goal

abbrev pub invariant-loop-exception : goal.invariant-loop-exception
invariant-loop-exception l = record {
  same : bad_exception (reading_of l.model) l.rank l.default l.line (Some l.before) (drop l.exception-index l.rest) ≡ bad_exception (reading_of l.model) l.rank l.default l.at (Some l.fn.first) l.rest;
  line : l.line ≡ l.at + l.exception-index;
}
