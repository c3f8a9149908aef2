use Rattle.std.proofs.Common.{◌≡◌, ◌+◌, ◌*◌, ◌^◌, ◌<◌, length, arith, ap, sym, subst, ◌∙◌}
use Rattle.std.specs.Prelude.{IfOk}
use Rattle.std.proofs.lemmas.List.{length-take-le}
use Rattle.fm_arena.proofs.Framing.{below_all, room_falls, room_some}
use Rattle.fm_arena.proofs.Reading.{read_at, read_past}
use Rattle.fm_arena.specs.Frames.{names_at, room_at, spot_room, spot_tree, wanted}
use Rattle.fm_arena.specs.Meanings.{Meaning}
use Rattle.fm_arena.proofs.frames.step.Goals as goal

pub returns-then-number-entries-clause-tree : goal.returns-then-number-entries-clause-tree
returns-then-number-entries-clause-tree c =
    λ d. sym (ap (λ (m : Meaning). wanted c.args.kind (m (names_at c.args.frames.now.items c.args.frame) d)) (read_past c.args.entries.now c.args.number (omega (arith, c.if-number-entries.true))))

pub returns-then-number-entries-clause-room : goal.returns-then-number-entries-clause-room
returns-then-number-entries-clause-room c = omega (arith, room_some (length c.args.entries.now))

pub returns-in-Some-clause-tree : goal.returns-in-Some-clause-tree
returns-in-Some-clause-tree c =
    λ d.
    let read = read_at c.args.entries.now c.split_at.result.0.now c.split_at.result.1.now c.in-Some.field-0-1.now c.args.number c.in-Some.entry.now (omega (arith, c.if-number-entries.false)) c.split_at.ensures.front c.split_at.ensures.back c.in-Some.ensures.cases.0 in
    subst (λ (m : Meaning). IfOk c.node_step.result (λ r. wanted r.0 (spot_tree c.node_step.new.frames.items r.1 d) ≡ wanted c.args.kind (m (names_at c.args.frames.now.items c.args.frame) d))) (sym read) (c.node_step.ensures.tree d)

pub returns-in-Some-clause-room : goal.returns-in-Some-clause-room
returns-in-Some-clause-room c =
    let b = length c.split_at.result.0.now in
    let n = length c.args.entries.now in
    let r = room_at c.args.frames.now.items c.args.frame in
    let cut : b ≡ c.args.number = ap length c.split_at.ensures.front ∙ length-take-le c.args.number c.args.entries.now (omega (arith, c.if-number-entries.false)) in
    let falls : 2 * 4 ^ b + 1 < 4 ^ n = room_falls n b (omega (arith, cut, c.if-number-entries.false)) in
    below_all c.node_step.result (λ x. spot_room c.node_step.new.frames.items x.1) (2 * 4 ^ b + 1 + r) (4 ^ n + r) (omega (arith, falls)) c.node_step.ensures.room
