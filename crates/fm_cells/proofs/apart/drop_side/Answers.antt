use Rattle.std.proofs.Common.{◌≡◌, [], ◌<◌, length, ap, ◌∙◌, arith}
use Rattle.fm_cells.specs.Apart.{places_at, popped_from}
use Rattle.fm_cells.proofs.Keying.{get_any, popped_none, popped_set}
use Rattle.fm_cells.proofs.apart.drop_side.Goals as goal

pub returns-then-node-len : goal.returns-then-node-len
returns-then-node-len c =
    let us = c.args.sides.now.items in
    let lt : c.args.node < length us = omega (arith, c.if-node-len.true, c.len.ensures) in
    let at : c.index_mut-list.result.now ≡ places_at us c.args.node = c.index_mut-list.ensures.value ∙ get_any us c.args.node c.index_mut-list.result.now [] lt in
    popped_set c.args.bound us c.args.node c.pop_from.new.self lt (c.pop_from.ensures ∙ ap (popped_from c.args.bound) at)

pub returns-else-node-len : goal.returns-else-node-len
returns-else-node-len c = popped_none c.args.bound c.args.sides.now.items c.args.node (omega (arith, c.if-node-len.false, c.len.ensures))
