use Rattle.std.proofs.Common.{◌≡◌, ◌∙◌, Option, drop, ◌+◌, ap}
use Rattle.fm_base.specs.declared.refusal.Refusal.{Refusal}
use Rattle.fm_elab.specs.Checks.{refused_from}
use Rattle.fm_elab.specs.Held.{state_of}
use Rattle.fm_check.proofs.Carried.{counted_stops}
use Rattle.fm_check.proofs.Lists.{at_item}
use Rattle.fm_check.proofs.judging.count_from.Goals as goal

pub returns-in-Err : goal.returns-in-Err
returns-in-Err c = counted_stops c.args.text.now (state_of c.loop-item.scopes) (state_of c.carry_out.new.scopes) (state_of c.args.scopes.now) c.item-item.result (drop (c.loop-item.item-index + 1) c.args.items.now) c.args.items.now c.in-Err.fail c.in-Err.ensures (c.loop-item.invariant.free ∙ ap (refused_from c.args.text.now (state_of c.loop-item.scopes)) (at_item c.args.items.now c.loop-item.item-index c.item-item.result c.loop-item-test.true c.item-item.is))
