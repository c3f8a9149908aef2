use Rattle.std.proofs.Common.{◌≡◌, length, take}
use Rattle.fm_cong.specs.Growth.{HasMoreUses, HasPlace}
use Rattle.fm_cong.proofs.registry.note_all.Given as goal

abbrev pub invariant-loop-arg : goal.invariant-loop-arg
invariant-loop-arg l = record {
  kept : HasMoreUses l.fn.uses.items l.uses.items;
  there : HasPlace l.uses.items (take l.arg-index l.args) l.place;
  long : length l.uses.items ≡ length l.fn.uses.items;
}
