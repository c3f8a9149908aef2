use Rattle.std.proofs.Common.{ℕ, get_or, false, arith}
use Rattle.fm_base.specs.declared.ids.Lit.{Lit}
use Rattle.fm_sat.proofs.Joins.{has_at}
use Rattle.fm_lines.proofs.naming.named_steps.Goals as goal

pub literal_of-requires : goal.literal_of-requires
literal_of-requires c =
    let steps = c.args.steps.now in
    let i = c.loop-step.step-index in
    let none : Lit × ℕ = (record { atom = record { 0 = 0 }; positive = false }, 0) in
    c.requires (get_or steps i none) (has_at steps i none (omega (arith, c.loop-step-test.true)))
