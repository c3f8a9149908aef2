use Rattle.std.proofs.Common.{◌≡◌, ◌↔◌, true}
use Rattle.std.proofs.lemmas.Result.{IfOk-weaker}
use Rattle.fm_rounds.specs.Fresh.{HasFreshConstants}
use Rattle.fm_steps.specs.Searchable.{IsSearchable}
use Rattle.fm_state.proofs.Searching.{not_sorted, with_fresh}
use Rattle.fm_state.proofs.searchable.is_searchable.Goals as goal

pub returns-then-not-are_well_sorted : goal.returns-then-not-are_well_sorted
returns-then-not-are_well_sorted c = not_sorted c.args.clauses.now c.are_well_sorted.result c.are_well_sorted.ensures c.if-not-are_well_sorted.true

pub returns : goal.returns
returns c =
    let p = c.args.clauses.now in
    let sorted = c.are_well_sorted.ensures.0 c.if-not-are_well_sorted.false in
    IfOk-weaker c.has_fresh_constants.result (λ b. (b ≡ true) ↔ HasFreshConstants p) (λ b. (b ≡ true) ↔ IsSearchable p) (λ b. with_fresh p b sorted) c.has_fresh_constants.ensures
