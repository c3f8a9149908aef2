use Rattle.std.proofs.Common.{◌≡◌, ◌<◌, ℕ, take}
use Rattle.fm_region.specs.Rows.{IsGrid, apart_in, between}
use Rattle.fm_region.proofs.rows.rows.Given as goal

abbrev pub invariant-loop-pair : goal.invariant-loop-pair
invariant-loop-pair l = record {
  grid : IsGrid l.count l.rows.items;
  says : (x y : ℕ) → x < l.count → y < l.count → apart_in l.rows.items x y ≡ between (take l.pair-index l.pairs) x y;
}
