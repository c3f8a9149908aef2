-- What is in force at a command.
use Rattle.std.specs.Prelude.{◌≡◌}
use Rattle.fm_elab.specs.Shown.{names_shown}
use Rattle.fm_elab.specs.Stacks.{State, assertions_in_force, signature, sort_names, symbol_names}
use Rattle.fm_elab.specs.declared.problem.Problem.{Problem}

pub record IsProblem (s : State) (p : Problem) : Type 0 where
  pub sig : p.sig ≡ signature s
  pub sorts : names_shown p.sort_names.items ≡ sort_names s
  pub symbols : names_shown p.symbol_names.items ≡ symbol_names s
  pub assertions : p.assertions.now ≡ assertions_in_force s
