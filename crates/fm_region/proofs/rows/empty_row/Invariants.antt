use Rattle.std.proofs.Common.{◌≡◌, ◌<◌, ℕ, false, length, get_or}
use Rattle.fm_region.proofs.rows.empty_row.Given as goal

abbrev pub invariant-loop-place : goal.invariant-loop-place
invariant-loop-place l = record {
  size : length l.row ≡ l._place;
  empty : (d : ℕ) → d < length l.row → get_or l.row d false ≡ false;
}
