use Rattle.std.proofs.Common.{◌≡◌, ◌||◌, take}
use Rattle.fm_base.specs.declared.ids.Lit.{Lit}
use Rattle.fm_resolve.specs.Marks.{Covers, SameMarks, is_in, is_member}
use Rattle.fm_resolve.proofs.marks.Marks.mark_all.Given as goal

abbrev pub invariant-loop-lit : goal.invariant-loop-lit
invariant-loop-lit l = record {
  now : (k : Lit) → is_in l.self k ≡ (is_in l.fn.self k || is_member (take l.lit-index l.lits) k);
  covers : Covers l.self;
  size : SameMarks l.fn.self l.self;
}
