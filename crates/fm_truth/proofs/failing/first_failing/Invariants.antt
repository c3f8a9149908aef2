use Rattle.std.proofs.Common.{◌≡◌, true, [], take}
use Rattle.std.specs.List.{All}
use Rattle.fm_base.specs.Interpretations.{reading_of}
use Rattle.fm_base.specs.Truth.{truth}
use Rattle.fm_truth.specs.Room.{IsWithin, room_of}
use Rattle.fm_truth.proofs.failing.first_failing.Given as goal

abbrev pub invariant-loop-assertion : goal.invariant-loop-assertion
invariant-loop-assertion l = record {
  room : All (λ f. IsWithin (room_of f) l.env) l.assertions;
  hold : All (λ f. truth f (reading_of l.interp) [] ≡ true) (take l.assertion l.assertions);
}
