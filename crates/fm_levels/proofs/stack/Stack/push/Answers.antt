use Rattle.std.proofs.Common.{◌∙◌, length, ap, sym}
use Rattle.fm_levels.proofs.Leveling.{resized, stack_push}
use Rattle.fm_levels.proofs.stack.Stack.push.Goals as goal

pub invariant_of-self-2 : goal.invariant_of-self-2
invariant_of-self-2 g c =
    let new = resized c.self.inside.marks.items c.as_slice.result.now c.resize.new.self.items c.args.count _ (length c.as_slice-mark.result.now) c.as_slice.ensures.value c.in_ok-resize.ensures.items (sym c.as_slice.ensures.len ∙ ap length c.as_slice.ensures.value) in
    (stack_push _ c.self.inside.marks.items c.resize.new.self.items _ c.args.count (length c.as_slice-mark.result.now) c.self.view_is c.self.invariant (ap length c.as_slice-mark.ensures.value) new).1

pub returns-clause-opened : goal.returns-clause-opened
returns-clause-opened g c =
    let new = resized c.self.inside.marks.items c.as_slice.result.now c.resize.new.self.items c.args.count _ (length c.as_slice-mark.result.now) c.as_slice.ensures.value c.in_ok-resize.ensures.items (sym c.as_slice.ensures.len ∙ ap length c.as_slice.ensures.value) in
    (stack_push _ c.self.inside.marks.items c.resize.new.self.items _ c.args.count (length c.as_slice-mark.result.now) c.self.view_is c.self.invariant (ap length c.as_slice-mark.ensures.value) new).0
