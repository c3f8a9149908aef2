use Rattle.std.proofs.Common.{◌≡◌, ◌-◌, take, length}
use Rattle.fm_cells.specs.Apart.{KeepsPlaces}
use Rattle.fm_cells.proofs.apart.Apart.drop_pairs.Given as goal

abbrev pub invariant-loop-self : goal.invariant-loop-self
invariant-loop-self l = record {
  pairs : take l.to l.self.pairs.items ≡ take l.to l.fn.self.pairs.items;
  sides : KeepsPlaces l.to l.fn.self.sides.items l.self.sides.items;
  keys : l.self.keys ≡ l.fn.self.keys;
}

abbrev pub decreases-loop-self : goal.decreases-loop-self
decreases-loop-self l = length l.self.pairs.items - l.to
