use Rattle.std.proofs.Common.{◌≡◌, drop}
use Rattle.std.specs.List.{find}
use Rattle.fm_bank.specs.declared.literal.Literal.{Literal}
use Rattle.fm_steps.specs.Sizes.{is_unvalued}
use Rattle.fm_state.proofs.standing.State.first_unvalued.Given as goal

abbrev pub invariant-loop-lit : goal.invariant-loop-lit
invariant-loop-lit l = find (λ (k : Literal). is_unvalued l.self k.atom) (drop l.lit-index l.lits) ≡ find (λ (k : Literal). is_unvalued l.self k.atom) l.lits
