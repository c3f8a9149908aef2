use Rattle.std.proofs.Common.{take}
use Rattle.fm_cells.specs.Apart.{AreEnteredAt, IsLonger, KeepsSound}
use Rattle.fm_cells.specs.Rings.{own_or}
use Rattle.fm_cells.proofs.apart.enter_pairs.Given as goal

abbrev pub invariant-loop-place : goal.invariant-loop-place
invariant-loop-place l = record {
  keys : IsLonger l.fn.keys.keys l.keys.keys;
  sound : KeepsSound (own_or l.class.cells.items) l.pairs l.fn.keys.keys l.keys.keys;
  entered : AreEnteredAt (own_or l.class.cells.items) l.pairs l.keys.keys l.joined (take l.place-index l.places);
}
