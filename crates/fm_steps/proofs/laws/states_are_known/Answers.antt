use Rattle.fm_steps.proofs.Closing.{each_known}
use Rattle.fm_steps.proofs.Typed.{tests_are_typed}
use Rattle.fm_steps.proofs.laws.states_are_known.Goals as goal

pub returns-clause-known : goal.returns-clause-known
returns-clause-known c = each_known

pub returns-clause-typed : goal.returns-clause-typed
returns-clause-typed c = tests_are_typed
