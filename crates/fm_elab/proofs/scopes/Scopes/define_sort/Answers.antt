use Rattle.std.proofs.Common.{refl}
use Rattle.fm_elab.specs.Held.{held_in}
use Rattle.fm_elab.proofs.Holding.{whole_by}
use Rattle.fm_elab.proofs.Placing.{length_inserted}
use Rattle.fm_elab.proofs.scopes.Scopes.define_sort.Goals as goal

pub invariant_of-self-in-Ok-insert : goal.invariant_of-self-in-Ok-insert
invariant_of-self-in-Ok-insert c =
    whole_by (held_in c.self.inside.declared_sorts c.self.inside.sorts c.self.inside.symbols c.self.inside.functions c.self.inside.arena c.self.inside.assertions c.self.inside.global c.self.inside.begun) _ c.self.invariant c.self.invariant.in_force refl refl
    (length_inserted c.self.inside.global c.in-Ok-insert.field-0 c.self.inside.sorts c.insert.new.self (c.args.name.bytes.now, c.in-Ok.ty) c.in-Ok-insert.ensures.taken c.in-Ok-insert.ensures.added) refl refl
