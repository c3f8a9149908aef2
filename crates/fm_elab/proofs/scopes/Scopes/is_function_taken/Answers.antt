use Rattle.std.proofs.Common.{ap, ◌∙◌}
use Rattle.fm_elab.specs.Held.{Held, held_in, state_of}
use Rattle.fm_elab.specs.Stacks.{is_function_taken}
use Rattle.fm_elab.proofs.Holding.{taken_by}
use Rattle.fm_elab.proofs.scopes.Scopes.is_function_taken.Goals as goal

pub returns-else-is_barred : goal.returns-else-is_barred
returns-else-is_barred c =
    taken_by (held_in c.self.inside.declared_sorts c.self.inside.sorts c.self.inside.symbols c.self.inside.functions c.self.inside.arena c.self.inside.assertions c.self.inside.global c.self.inside.begun) c.args.name.now c.is_barred.result c.has.result c.is_barred.ensures c.if-is_barred.false c.has.ensures
    ∙ ap (λ (h : Held). is_function_taken (state_of h) c.args.name.now) c.self.view_is
