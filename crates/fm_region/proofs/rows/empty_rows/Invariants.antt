use Rattle.std.proofs.Common.{◌≡◌, ◌<◌, ℕ, [], length, get_or}
use Rattle.fm_region.specs.Rows.{IsEmptyRow}
use Rattle.fm_region.proofs.rows.empty_rows.Given as goal

abbrev pub invariant-loop-place : goal.invariant-loop-place
invariant-loop-place l = record {
  size : length l.rows.items ≡ l._place;
  each : (c : ℕ) → c < length l.rows.items → IsEmptyRow l.count (get_or l.rows.items c []);
}
