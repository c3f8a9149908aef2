use Rattle.std.proofs.Common.{◌<◌, ◌+◌, Option, ℕ, length, drop, ap, ◌∙◌, arith}
use Rattle.fm_bank.specs.Interning.{Held}
use Rattle.fm_steps.specs.Sizes.{least}
use Rattle.fm_machine.specs.Settling.{both}
use Rattle.fm_machine.proofs.Bounds.{atom_there, least_next, numbers_from}
use Rattle.fm_machine.proofs.picking.least_true.Goals as goal

pub loop-id-preserved : goal.loop-id-preserved
loop-id-preserved c =
    let s = c.args.state.now in
    let i = c.loop-id.id in
    let lt : i < length s.held.atoms = (let a = c.loop-id-test.true in let b = c.atoms-id-end.ensures in let e = ap (λ (h : Held). length h.atoms) c.bank.ensures in omega (arith, a, b, e)) in
    let a = atom_there s.held.atoms i lt in
    ap (λ (f : Option ℕ). both f (least (numbers_from s c.args.sort.0 (drop (i + 1) s.held.atoms)))) c.lesser-found.ensures
    ∙ least_next s c.args.sort.0 i a.0 c.loop-id.found c.true_bound-bound.result a.1 (c.true_bound-bound.ensures a.0 a.1) ∙ c.loop-id.invariant
