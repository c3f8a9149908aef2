use Rattle.std.proofs.Common.{◌≡◌, ◌++◌, drop, length}
use Rattle.std.specs.Prelude.{slice_get}
use Rattle.std.specs.List.{flat_map, range_with_len}
use Rattle.fm_steps.specs.Menu.{both_ways, clause_atoms}
use Rattle.fm_state.specs.Offers.{offers_in}
use Rattle.fm_state.proofs.choices.put_wanted.Given as goal

abbrev pub invariant-loop-number : goal.invariant-loop-number
invariant-loop-number l = offers_in l.offers.items ++ flat_map (λ n. both_ways l.state n (slice_get l.state.held.atoms n)) (drop l.number (range_with_len 0 (length l.state.held.atoms))) ≡ offers_in l.fn.offers.items ++ clause_atoms l.state
