use Rattle.std.proofs.Common.{◌≡◌, ◌||◌, take}
use Rattle.fm_base.specs.declared.ids.Lit.{Lit}
use Rattle.fm_resolve.specs.Marks.{SameMarks, is_member, is_never, mark_of}
use Rattle.fm_resolve.proofs.marks.Marks.clear.Given as goal

abbrev pub invariant-loop-i : goal.invariant-loop-i
invariant-loop-i l = record {
  touched : l.self.touched.items ≡ l.fn.self.touched.items;
  now : (k : Lit) → is_never (mark_of l.self k) ≡ (is_never (mark_of l.fn.self k) || is_member (take l.i l.fn.self.touched.items) k);
  size : SameMarks l.fn.self l.self;
}
