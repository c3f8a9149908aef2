use Rattle.std.proofs.Common.{◌≡◌, ℕ, List, None, sym, ap, subst, ◌∙◌}
use Rattle.fm_bank.specs.Interning.{atom_number, with_atom}
use Rattle.fm_steps.specs.State.{State, value_by}
use Rattle.fm_steps.proofs.Trails.{none_by_new_number}
use Rattle.fm_trail.specs.declared.entry.Entry.{Entry}
use Rattle.fm_state.proofs.standing.State.decide.Goals as goal

pub decide-requires : goal.decide-requires
decide-requires c =
    let s = c.args.self.now in
    let a = c.args.literal.atom in
    let same : c.self.inside.trail.entries ≡ s.trail.entries = ap (λ (x : State). x.trail.entries) (c.self.view_is ∙ c.in_ok-atom.ensures.known) in
    let number : c.in_ok-atom.atom.0 ≡ atom_number (with_atom s.held.atoms a) a = c.in_ok-atom.ensures.number ∙ ap (λ (x : State). atom_number x.held.atoms a) c.in_ok-atom.ensures.known in
    subst (λ (es : List Entry). value_by es c.in_ok-atom.atom.0 ≡ None) (sym same) (subst (λ (n : ℕ). value_by s.trail.entries n ≡ None) (sym number) (none_by_new_number s.trail.entries s.held.atoms a c.requires.over c.requires.unset))
