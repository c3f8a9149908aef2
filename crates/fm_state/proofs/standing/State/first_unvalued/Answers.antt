use Rattle.std.proofs.Common.{false, sym, ◌∙◌, arith}
use Rattle.fm_bank.specs.declared.atom.Atom.{Atom}
use Rattle.fm_bank.specs.declared.literal.Literal.{Literal}
use Rattle.fm_steps.specs.Sizes.{is_unvalued}
use Rattle.fm_state.proofs.Open.{find_on}
use Rattle.fm_state.proofs.standing.State.first_unvalued.Goals as goal

-- what a read past the end would give
abbrev none : Literal
none = record { positive = false; atom = Atom.Equal (record { 0 = 0 }) (record { 0 = 0 }) }

pub loop-lit-preserved : goal.loop-lit-preserved
loop-lit-preserved c = sym (find_on (λ (k : Literal). is_unvalued c.args.self.now k.atom) c.args.lits.now c.loop-lit.lit-index none (omega (arith, c.loop-lit-test.true)) (sym c.has_no_value.ensures ∙ c.if-has_no_value.false)) ∙ c.loop-lit.invariant
