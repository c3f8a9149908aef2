use Rattle.std.proofs.Common.{◌≡◌, ◌+◌, ◌-◌, ◌≤◌, length}
use Rattle.fm_sexp.specs.Places.{place_of}
use Rattle.fm_sexp.specs.Building.{so_far, IsReadTo}
use Rattle.fm_sexp.proofs.items.read_sexps.Given as goal

abbrev pub invariant-loop-start : goal.invariant-loop-start
invariant-loop-start l = record {
  within : l.start ≤ length l.text;
  shallow : length l.builder.frames.items ≤ 200;
  place : l.at ≡ place_of l.text l.start;
  line : l.at.line ≤ 1 + l.start;
  column : l.at.column ≤ 1 + l.start;
  read : IsReadTo l.text l.start (length l.builder.frames.items) (so_far l.builder);
}

abbrev pub decreases-loop-start : goal.decreases-loop-start
decreases-loop-start l = length l.text - l.start
