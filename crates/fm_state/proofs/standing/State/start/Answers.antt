use Rattle.std.proofs.Common.{List, sym, ap, subst, ◌∙◌}
use Rattle.std.specs.List.{range_with_len}
use Rattle.fm_bank.specs.declared.clause.Clause.{Clause}
use Rattle.fm_state.specs.Begins.{AreRegistered}
use Rattle.fm_steps.specs.State.{State}
use Rattle.fm_steps.specs.Start.{first_terms}
use Rattle.fm_state.proofs.Registered.{all_registered, elements_sig, ground_sig}
use Rattle.fm_state.proofs.standing.State.start.Goals as goal

pub add_ground_clauses-requires : goal.add_ground_clauses-requires
add_ground_clauses-requires c =
    let p = c.args.clauses.now in
    subst (λ (s : State). AreRegistered s.held.sig s.held.terms c.as_slice.result.now) (sym c.in_ok-state.ensures) (subst (λ (cs : List Clause). AreRegistered p.sig (first_terms p) cs) (sym c.as_slice.ensures) (all_registered p c.requires))

pub add_elements-requires : goal.add_elements-requires
add_elements-requires c =
    let p = c.args.clauses.now in
    sym (ap (λ (s : State). s.held.sig.sorts) c.in_ok-add_ground_clauses.ensures ∙ (ap (λ g. g.sorts) (ground_sig c.as_slice.result.now c.in_ok-state.state) ∙ ap (λ (s : State). s.held.sig.sorts) c.in_ok-state.ensures))

pub add_first_sum-requires : goal.add_first_sum-requires
add_first_sum-requires c =
    let p = c.args.clauses.now in
    sym (ap (λ (s : State). s.held.sig.sorts) c.in_ok-add_elements.ensures ∙ (ap (λ g. g.sorts) (elements_sig (range_with_len 0 p.sig.sorts) c.add_ground_clauses.new.self)
    ∙ (ap (λ (s : State). s.held.sig.sorts) c.in_ok-add_ground_clauses.ensures ∙ (ap (λ g. g.sorts) (ground_sig c.as_slice.result.now c.in_ok-state.state) ∙ ap (λ (s : State). s.held.sig.sorts) c.in_ok-state.ensures))))
