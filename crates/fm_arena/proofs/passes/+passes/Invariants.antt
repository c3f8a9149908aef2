use Rattle.std.proofs.Common.{◌≡◌, ◌≤◌, ◌+◌, ◌*◌, [], length}
use Rattle.fm_arena.specs.Weights.{AreWeighedAfter, Weights, weight_at, weighed_of}
use Rattle.fm_arena.specs.Passes.{AreOnesPast, pass_weight}
use Rattle.fm_arena.proofs.passes.+passes.Given as goal

abbrev pub decreases-form_of : goal.decreases-form_of
decreases-form_of l = 3 * length l.entries.now

abbrev pub decreases-spread : goal.decreases-spread
decreases-spread l = 3 * length l.before.now + 2

abbrev pub decreases-spread_block : goal.decreases-spread_block
decreases-spread_block l = 3 * length l.before.now + 1

abbrev pub invariant-form_of-loop-reads : goal.invariant-form_of-loop-reads
invariant-form_of-loop-reads l = record {
  weight : (w : Weights) → AreOnesPast l.params w → pass_weight (weighed_of l.left) (length l.left) l.pass w ≡ weight_at (weighed_of l.entries) l.number w;
  params : length l.pass.params.items ≡ l.params;
  few : length l.pass.marks.items ≤ length l.left;
  kept : AreWeighedAfter [] [] l.left;
  shorter : length l.left ≤ length l.entries;
}

abbrev pub decreases-form_of-loop-reads : goal.decreases-form_of-loop-reads
decreases-form_of-loop-reads l = length l.left
