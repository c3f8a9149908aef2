use Rattle.fm_elab.specs.Held.{state_of}
use Rattle.fm_elab.specs.Shown.{items_shown}
use Rattle.fm_elab.proofs.Holding.{arguments_things}
use Rattle.fm_elab.proofs.scopes.Scopes.declare_function.Goals as goal

pub add_symbol-requires-clause-things : goal.add_symbol-requires-clause-things
add_symbol-requires-clause-things c = arguments_things c.args.text.now (state_of c.args.self.now) (items_shown c.args.args.now) c.in-Ok.types c.in-Ok.ensures
