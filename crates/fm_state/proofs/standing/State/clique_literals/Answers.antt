use Rattle.std.proofs.Common.{◌≡◌, ◌++◌, ℕ, List, Some, None, ap, sym, ◌∙◌}
use Rattle.std.specs.Prelude.{Option}
use Rattle.fm_bank.specs.Terms.{numbers}
use Rattle.fm_steps.specs.State.{Pick}
use Rattle.fm_state.proofs.standing.State.clique_literals.Goals as goal

pub unreachable-requires : goal.unreachable-requires
unreachable-requires c =
    let p : Option Pick = Some (record { terms = c.requires.0; pair = None }) in
    let h : ◌≡◌ {A = Option (List ℕ)} None (Some c.requires.0) = c.in-None.ensures p c.requires.1 in
    cc h

pub returns-clause-terms : goal.returns-clause-terms
returns-clause-terms c =
    let p : Option Pick = Some (record { terms = c.requires.0; pair = None }) in
    let h : ◌≡◌ {A = Option (List ℕ)} (Some (numbers c.in-Some.slice.now)) (Some c.requires.0) = c.in-Some.ensures p c.requires.1 in
    let same : numbers c.in-Some.slice.now ≡ c.requires.0 = cc h in
    let items = c.in_ok-extend_from_slice-in-Some.ensures.items ∙ ap (λ l. l ++ c.in-Some.slice.now) c.new-terms.ensures.items in
    c.requires.1 ∙ ap (λ (ts : List ℕ). Some (Some (record { terms = ts; pair = None }))) (sym (ap numbers items ∙ same))
