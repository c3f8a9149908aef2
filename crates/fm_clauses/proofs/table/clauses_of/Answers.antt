use Rattle.std.proofs.Common.{List, [], ◌++◌, ap, subst, ◌∙◌, arith}
use Rattle.fm_base.specs.declared.signature.Rank.{Rank}
use Rattle.fm_bank.specs.declared.clause.Clause.{Clause}
use Rattle.fm_nnf.specs.LiftLaw.{with_ranks}
use Rattle.fm_clauses.specs.Adding.{Adds}
use Rattle.fm_clauses.specs.Assertions.{assertions_made, fresh_constants, has_ground}
use Rattle.fm_clauses.proofs.Problems.{table_is}
use Rattle.fm_clauses.proofs.table.clauses_of.Goals as goal

pub returns : goal.returns
returns c =
    let sig = c.args.problem.now.sig.now in
    let fs = c.args.problem.now.assertions.now in
    let user = c.in_ok-user.user in
    let clauses = c.push_assertions.new.clauses.items in
    let made = c.push_assertions.new.ranks.items in
    let symbols = c.in_ok-symbols.symbols in
    let constants = λ (cs : List Clause). fresh_constants symbols.sorts (has_ground symbols cs) in
    let e = c.in_ok-user.ensures.0 in
    let l = c.len.ensures in
    let none : Adds (assertions_made sig fs) user [] [] clauses made =
    subst (λ (rs : List Rank). Adds (assertions_made sig fs) user [] rs clauses made) c.new-made.ensures.items
    (subst (λ (cs : List Clause). Adds (assertions_made sig fs) user cs c.new-made.result.items clauses made) c.new-clauses.ensures.items
    c.in_ok-push_assertions.ensures) in
    (λ i. record { sig = c.in_ok-sig.sig; user = user; clauses = c.from_vec.ensures i }) ∙ table_is sig fs user symbols c.in_ok-sig.sig clauses made c.push_fresh.new.ranks.items (omega (arith, e, l)) none
    (c.in_ok-symbols.ensures ∙ ap (with_ranks sig) c.as_slice.ensures.value)
    (c.in_ok-push_fresh.ensures ∙ (λ i. c.new-fresh.ensures.items i ++ constants (c.as_slice-2.ensures.value i)))
    (c.in_ok-sig.ensures ∙ ap (with_ranks symbols) c.as_slice-3.ensures.value)
