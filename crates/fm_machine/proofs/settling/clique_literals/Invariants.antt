use Rattle.std.proofs.Common.{◌≡◌, ◌++◌, drop, map}
use Rattle.std.specs.List.{flat_map}
use Rattle.fm_state.specs.Stands.{pick_in}
use Rattle.fm_steps.specs.Picks.{pick_literals}
use Rattle.fm_machine.proofs.settling.clique_literals.Given as goal

-- what the rest has goes behind
abbrev pub invariant-loop-pick : goal.invariant-loop-pick
invariant-loop-pick l = l.lits.items ++ flat_map pick_literals (map pick_in (drop l.pick-index l.picks)) ≡ flat_map pick_literals (map pick_in l.picks)
