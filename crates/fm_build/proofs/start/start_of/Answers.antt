use Rattle.std.proofs.Common.{◌≡◌, ◌-◌, ◌++◌, List, length, ap, ◌∙◌}
use Rattle.fm_bank.specs.declared.clause.Clause.{Clause}
use Rattle.fm_rounds.specs.InstanceTerms.{ground_terms}
use Rattle.fm_build.specs.Fresh.{bare_count, constants_from}
use Rattle.fm_build.proofs.Starting.{constants_behind}
use Rattle.fm_build.proofs.start.start_of.Goals as goal

pub returns : goal.returns
returns c =
    let set = c.args.clauses.now in
    let terms = c.args.bank.now.terms in
    let all = length set.sig.ranks in
    let ground = ground_terms set.clauses terms in
    let put : c.put_ground.new.found.items ≡ ground = c.in_ok-put_ground.ensures ∙ ap (λ l. l ++ ground_terms c.as_slice.result.now terms) c.new-found.ensures.items ∙ ap (λ (cs : List Clause). ground_terms cs terms) c.as_slice.ensures in
    let from : c.saturating_sub.result ≡ all - bare_count set = c.saturating_sub.ensures ∙ (λ i. c.len-all.ensures i - c.in_ok-bare.ensures i) in
    let end : c.len-all.result ≡ all = c.len-all.ensures in
    c.in_ok-put_constants.ensures ∙ (λ i. put i ++ constants_from terms (from i) (end i)) ∙ ap (λ l. ground ++ l) (constants_behind terms all (bare_count set))
