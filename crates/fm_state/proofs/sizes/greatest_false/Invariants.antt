use Rattle.std.proofs.Common.{◌≡◌, ◌≤◌, false, cond, [], drop, length}
use Rattle.std.specs.List.{flat_map}
use Rattle.fm_bank.specs.declared.atom.Atom.{Atom}
use Rattle.fm_steps.specs.Sizes.{greatest, holds, number_in}
use Rattle.fm_state.proofs.sizes.greatest_false.Given as goal

abbrev pub invariant-loop-left : goal.invariant-loop-left
invariant-loop-left l = record {
  found : l.greatest ≡ greatest (flat_map (λ (a : Atom). cond (holds l.state false a) (number_in l.sort.0 a) []) (drop l.left l.state.held.atoms));
  within : l.left ≤ length l.state.held.atoms;
}

abbrev pub decreases-loop-left : goal.decreases-loop-left
decreases-loop-left l = l.left
