use Rattle.std.proofs.Common.{ap, subst, ◌∙◌}
use Rattle.fm_bank.specs.Interning.{Held, StandOnce}
use Rattle.fm_trail.specs.Trail.{value_of}
use Rattle.fm_state.proofs.Finding.{value_here}
use Rattle.fm_state.proofs.sizes.value_at.Goals as goal

pub returns : goal.returns
returns c =
    let once : StandOnce c.args.state.now.held.atoms = subst (λ (h : Held). StandOnce h.atoms) c.bank.ensures c.one_number_per_term.ensures.one_atom in
    c.value.ensures ∙ ap (λ t. value_of t.entries c.args.id) c.trail.ensures ∙ value_here c.args.state.now c.args.atom c.args.id.0 once c.requires
