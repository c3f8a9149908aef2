use Rattle.std.specs.List.{All}
use Rattle.fm_truth.specs.Room.{IsWithin, room_of}
use Rattle.fm_truth.proofs.checked.truths.Given as goal

abbrev pub invariant-loop-formula : goal.invariant-loop-formula
invariant-loop-formula l = All (λ f. IsWithin (room_of f) l.env) l.formulas
