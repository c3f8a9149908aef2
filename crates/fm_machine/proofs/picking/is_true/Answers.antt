use Rattle.std.proofs.Common.{sym, ap, subst, ◌∙◌}
use Rattle.fm_bank.specs.Interning.{Held, IsHeld}
use Rattle.fm_trail.specs.Trail.{value_of}
use Rattle.fm_trail.specs.Trail.{Held as Trail}
use Rattle.fm_machine.proofs.Bounds.{holds_at, none_is, value_is}
use Rattle.fm_machine.proofs.picking.is_true.Goals as goal

pub returns-in-None : goal.returns-in-None
returns-in-None c = λ a at.
    let s = c.args.state.now in
    let held = subst (λ (h : Held). IsHeld h.sig h.terms h.atoms) c.bank.ensures c.one_number_per_term.ensures.held in
    let value = sym (ap (λ (t : Trail). value_of t.entries c.args.id) c.trail.ensures) ∙ sym c.value.ensures ∙ c.in-None.is in
    holds_at s c.args.id.0 a _ held at (none_is (value_of s.trail.entries c.args.id) value)

pub returns-in-Some : goal.returns-in-Some
returns-in-Some c = λ a at.
    let s = c.args.state.now in
    let held = subst (λ (h : Held). IsHeld h.sig h.terms h.atoms) c.bank.ensures c.one_number_per_term.ensures.held in
    let value = sym (ap (λ (t : Trail). value_of t.entries c.args.id) c.trail.ensures) ∙ sym c.value.ensures ∙ c.in-Some.is in
    holds_at s c.args.id.0 a c.in-Some.value held at (value_is c.in-Some.value (value_of s.trail.entries c.args.id) value)
