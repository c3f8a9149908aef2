use Rattle.std.proofs.Common.{drop, map, ◌++◌, ◌≡◌}
use Rattle.fm_levels.specs.Levels.{joined}
use Rattle.fm_elab.specs.Shown.{names_shown}
use Rattle.fm_elab.proofs.problem.names_in.Given as goal

abbrev pub invariant-loop-place : goal.invariant-loop-place
invariant-loop-place g l = names_shown l.names.items ++ map (λ e. e.0) (drop l.place (joined l.declared)) ≡ map (λ e. e.0) (joined l.declared)
