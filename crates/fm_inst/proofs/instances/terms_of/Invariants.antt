use Rattle.std.proofs.Common.{◌≡◌, ◌++◌, drop}
use Rattle.fm_inst.specs.Answers.{terms_of}
use Rattle.fm_inst.proofs.instances.terms_of.Given as goal

abbrev pub invariant-loop-place : goal.invariant-loop-place
invariant-loop-place l = l.terms ++ terms_of l.reps (drop l.place l.vars) (drop l.place l.tuple) ≡ terms_of l.reps l.vars l.tuple
