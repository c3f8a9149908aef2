use Rattle.std.proofs.Common.{◌≡◌, drop}
use Rattle.fm_base.specs.Interpretations.{reading_of}
use Rattle.fm_inst.specs.Depths.{AreReady}
use Rattle.fm_rounds.specs.Failing.{first_failing, first_failing_from}
use Rattle.fm_inst.proofs.instances.first_failing.Given as goal

-- the search in what is left is the search in the whole
abbrev pub invariant-loop-place : goal.invariant-loop-place
invariant-loop-place l = record {
  same : first_failing_from (reading_of l.interp) l.place (drop l.place l.clauses) ≡ first_failing (reading_of l.interp) l.clauses;
  ready : AreReady (reading_of l.interp) (drop l.place l.clauses);
}
