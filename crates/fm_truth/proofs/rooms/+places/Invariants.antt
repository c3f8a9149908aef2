use Rattle.std.proofs.Common.{◌≡◌, map, drop}
use Rattle.fm_truth.specs.Room.{room, larger, largest, room_of, room_of_term}
use Rattle.fm_truth.proofs.rooms.+places.Given as goal

abbrev pub invariant-argument_places-loop-term : goal.invariant-argument_places-loop-term
invariant-argument_places-loop-term l = larger (room l.places.vars l.places.args) (largest (map room_of_term (drop l.term-index l.terms))) ≡ largest (map room_of_term l.terms)

abbrev pub invariant-largest_formula-loop-formula : goal.invariant-largest_formula-loop-formula
invariant-largest_formula-loop-formula l = larger (room l.places.vars l.places.args) (largest (map room_of (drop l.formula-index l.formulas))) ≡ largest (map room_of l.formulas)
