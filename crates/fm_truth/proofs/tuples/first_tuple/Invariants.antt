use Rattle.std.proofs.Common.{◌≡◌, ◌+◌, ◌++◌, take, drop}
use Rattle.fm_base.specs.Interpretations.{reading_of}
use Rattle.fm_truth.specs.Tuples.{zeros, have_elements}
use Rattle.fm_truth.proofs.tuples.first_tuple.Given as goal

abbrev pub invariant-loop-variable : goal.invariant-loop-variable
invariant-loop-variable l = record {
  elements : have_elements (reading_of l.interp) (drop l.variable l.sorts) ≡ have_elements (reading_of l.interp) l.sorts;
  written : take (l.depth + l.variable) l.vars ++ zeros (drop l.variable l.sorts) ≡ take l.depth l.fn.vars ++ zeros l.sorts;
  same : take l.depth l.vars ≡ take l.depth l.fn.vars;
}
