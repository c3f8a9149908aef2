use Rattle.std.proofs.Common.{◌≡◌, ◌||◌, ℕ, ◌<◌, false, length, take, get_or}
use Rattle.fm_bank.specs.Regions.{is_in}
use Rattle.fm_region.proofs.parts.mark_all.Given as goal

abbrev pub invariant-loop-c : goal.invariant-loop-c
invariant-loop-c l = record {
  size : length l.marks.items ≡ length l.fn.marks.items;
  marked : (d : ℕ) → d < length l.fn.marks.items → get_or l.marks.items d false ≡ (get_or l.fn.marks.items d false || is_in (take l.c-index l.region) d);
}
