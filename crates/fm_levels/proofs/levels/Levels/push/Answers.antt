use Rattle.std.proofs.Common.{◌∙◌, length, ap, sym}
use Rattle.fm_levels.proofs.Leveling.{named_push, resized}
use Rattle.fm_levels.proofs.levels.Levels.push.Goals as goal

pub invariant_of-self-2 : goal.invariant_of-self-2
invariant_of-self-2 g c =
    let new = resized c.self.inside.marks.items c.as_slice.result.now c.resize.new.self.items c.args.count _ c.len-mark.result c.as_slice.ensures.value c.in_ok-resize.ensures.items (sym c.as_slice.ensures.len ∙ ap length c.as_slice.ensures.value) in
    (named_push c.self.inside.first _ c.self.inside.marks.items c.resize.new.self.items _ c.args.count c.len-mark.result c.self.view_is c.self.invariant c.len-mark.ensures new).1

pub returns-clause-opened : goal.returns-clause-opened
returns-clause-opened g c =
    let new = resized c.self.inside.marks.items c.as_slice.result.now c.resize.new.self.items c.args.count _ c.len-mark.result c.as_slice.ensures.value c.in_ok-resize.ensures.items (sym c.as_slice.ensures.len ∙ ap length c.as_slice.ensures.value) in
    (named_push _ _ c.self.inside.marks.items c.resize.new.self.items _ c.args.count c.len-mark.result c.self.view_is c.self.invariant c.len-mark.ensures new).0
