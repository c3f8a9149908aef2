use Rattle.std.proofs.Common.{◌≡◌, ◌-◌, ◌<◌, drop, get_or, length, map}
use Rattle.fm_base.specs.Interpretations.{reading_of}
use Rattle.fm_inst.specs.Depths.{level_true, literal_depth}
use Rattle.fm_inst.proofs.search.level_holds.Given as goal

-- the place is one of the level, or the end, and what is left of the clause has the level's truth
abbrev pub invariant-loop-place : goal.invariant-loop-place
invariant-loop-place l = record {
  here : l.place < length l.lits → get_or (map literal_depth l.lits) l.place 0 ≡ l.depth;
  same : level_true (reading_of l.interp) (drop l.place l.lits) l.depth l.env ≡ level_true (reading_of l.interp) l.lits l.depth l.env;
}

abbrev pub decreases-loop-place : goal.decreases-loop-place
decreases-loop-place l = length l.lits - l.place
