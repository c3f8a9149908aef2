use Rattle.std.proofs.Common.{◌≡◌, ◌-◌, ◌+◌, ◌≤◌, Some, length, subst, arith}
use Rattle.std.specs.Prelude.{slice_get}
use Rattle.fm_bank.specs.Interning.{Held}
use Rattle.fm_state.proofs.Greatest.{greatest_on}
use Rattle.fm_state.proofs.sizes.greatest_false.Goals as goal

pub loop-left-preserved : goal.loop-left-preserved
loop-left-preserved c =
    let s = c.args.state.now in
    let m = c.loop-left.left - 1 in
    let is : c.loop-left.left ≡ m + 1 = omega (arith, c.loop-left-test.true) in
    let at : slice_get s.held.atoms m ≡ Some c.atom_of.result = subst (λ (h : Held). slice_get h.atoms m ≡ Some c.atom_of.result) c.bank-in-loop-left.ensures c.atom_of.ensures in
    let within : m ≤ length s.held.atoms = omega (arith, c.loop-left.invariant.within) in
    record { found = greatest_on s c.args.sort.0 m c.loop-left.left c.atom_of.result c.false_number-number.result c.loop-left.greatest c.greatest_or-greatest.result is at c.false_number-number.ensures c.greatest_or-greatest.ensures c.loop-left.invariant.found; within = within }
