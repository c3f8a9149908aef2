use Rattle.std.proofs.Common.{◌≡◌, ◌≤◌, ◌-◌, length, drop, map}
use Rattle.fm_cert.specs.Parts.{steps_in}
use Rattle.fm_cert.proofs.PartLists.{put}
use Rattle.fm_cert.proofs.parts.steps_of.Given as goal

abbrev pub invariant-loop-at : goal.invariant-loop-at
invariant-loop-at l = record {
  within : l.at ≤ length l.parts;
  so_far : steps_in (map (λ s. s.now) l.parts) ≡ put l.steps.items (steps_in (map (λ s. s.now) (drop l.at l.parts)));
}

abbrev pub decreases-loop-at : goal.decreases-loop-at
decreases-loop-at l = length l.parts - l.at
