use Rattle.std.proofs.Common.{◌≡◌, ◌<◌, ℕ, true, length, map, take}
use Rattle.std.specs.Prelude.{◌↔◌}
use Rattle.std.specs.List.{All}
use Rattle.fm_bank.specs.Closure.{AreApart}
use Rattle.fm_bank.specs.Terms.{numbers}
use Rattle.fm_cong.specs.Facts.{numbers_of_pair, pairs_of}
use Rattle.fm_region.specs.Rows.{IsPairBelow, between, number_at}
use Rattle.fm_region.proofs.rows.place_pairs.Given as goal

abbrev pub invariant-loop-pair : goal.invariant-loop-pair
invariant-loop-pair l = record {
  below : All (IsPairBelow (length l.terms)) l.placed.items;
  says : (x y : ℕ) → x < length l.terms → y < length l.terms → (between l.placed.items x y ≡ true) ↔ AreApart l.graph.shapes (pairs_of l.graph.facts) (map numbers_of_pair (take l.pair-index l.pairs)) (number_at (numbers l.terms) x) (number_at (numbers l.terms) y);
}
