use Rattle.std.proofs.Common.{◌-◌, arith, ap, sym, ◌∙◌}
use Rattle.std.specs.Prelude.{Option}
use Rattle.fm_arena.proofs.Framing.{named_tree, named_room}
use Rattle.fm_arena.specs.Frames.{found_room, found_tree}
use Rattle.fm_arena.specs.declared.frames.Spot.{Spot}
use Rattle.fm_arena.proofs.frames.named.Goals as goal

pub returns-in-Some-clause-tree : goal.returns-in-Some-clause-tree
returns-in-Some-clause-tree c =
    λ d.
    let fs = c.args.frames.now in
    let n = c.loop-number.number in
    let outer = c.saturating_sub-number.result in
    sym (ap (λ (o : Option Spot). found_tree fs outer c.args.place o d) c.in-Some.is)
    ∙ named_tree fs c.index-frames-number.result n (n - 1) outer c.args.place d c.in_ok-spot.field-0 (omega arith) (omega arith) c.index-frames-number.is (omega arith) (c.in_ok-spot.ensures.tree fs d)
    ∙ c.loop-number.invariant.tree d

pub returns-in-Some-clause-room : goal.returns-in-Some-clause-room
returns-in-Some-clause-room c =
    let fs = c.args.frames.now in
    let n = c.loop-number.number in
    let outer = c.saturating_sub-number.result in
    let same = ap (λ (o : Option Spot). found_room fs outer o) c.in-Some.is in
    let less = named_room fs c.index-frames-number.result n (n - 1) outer c.in_ok-spot.field-0 (omega arith) (omega arith) c.index-frames-number.is (omega arith) (c.in_ok-spot.ensures.room fs) in
    omega (arith, same, less)

pub loop-number-preserved : goal.loop-number-preserved
loop-number-preserved c =
    let fs = c.args.frames.now in
    let n = c.loop-number.number in
    let f = c.index-frames-number.result in
    let outer = c.saturating_sub-number.result in
    let same = ap (λ (o : Option Spot). found_room fs outer o) c.in_default.is in
    let less = named_room fs f n (n - 1) outer c.in_ok-spot.field-0 (omega arith) (omega arith) c.index-frames-number.is (omega arith) (c.in_ok-spot.ensures.room fs) in
    record {
      tree = λ d. sym (ap (λ (o : Option Spot). found_tree fs outer c.args.place o d) c.in_default.is)
          ∙ named_tree fs f n (n - 1) outer c.args.place d c.in_ok-spot.field-0 (omega arith) (omega arith) c.index-frames-number.is (omega arith) (c.in_ok-spot.ensures.tree fs d)
          ∙ c.loop-number.invariant.tree d;
      within = omega arith;
      room = omega (arith, same, less);
    }
