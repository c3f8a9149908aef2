use Rattle.std.proofs.Common.{List, ap, sym, ◌∙◌, arith}
use Rattle.fm_base.specs.declared.formula.Pterm.{Pterm}
use Rattle.fm_nnf.specs.NormalSize.{term_nodes}
use Rattle.fm_clauses.specs.Narrow.{any_of, occurs_in_term}
use Rattle.fm_clauses.proofs.Listings.{lists_as, lists_end, lists_more}
use Rattle.fm_clauses.proofs.Terms.{occurs_app}
use Rattle.fm_clauses.proofs.Weights.{item-weight}
use Rattle.fm_clauses.proofs.scoped.+list.Goals as goal

pub list_terms-list_term-requires : goal.list_terms-list_term-requires
list_terms-list_term-requires t c =
    let w = item-weight term_nodes c.args.terms.now c.loop-term.term-index c.term-item.result c.loop-term-test.true c.term-item.is in
    (omega (arith, c.decreases, w), tt)

pub list_terms-loop-term-preserved : goal.list_terms-loop-term-preserved
list_terms-loop-term-preserved t c = λ last rest.
    c.loop-term.invariant last (lists_more occurs_in_term c.args.terms.now c.loop-term.term-index c.term-item.result c.loop-term-test.true c.term-item.is c.loop-term.found.items c.list_term.new.found.items last c.in_ok-list_term.ensures rest)

pub list_terms-returns : goal.list_terms-returns
list_terms-returns t c = c.loop-term.invariant c.loop-term.found.items (lists_end occurs_in_term c.args.terms.now c.loop-term.term-index c.loop-term-test.false c.loop-term.found.items)

pub list_term-returns-in_ok-list_terms-in-App : goal.list_term-returns-in_ok-list_terms-in-App
list_term-returns-in_ok-list_terms-in-App t c =
    lists_as (any_of occurs_in_term c.as_slice.result.now) (occurs_in_term c.args.term.now) c.args.found.now.items c.list_terms.new.found.items c.in_ok-list_terms-in-App.ensures
    (λ k. ap (λ (t : Pterm). occurs_in_term t k) c.in-App.is ∙ occurs_app _ c.in-App.terms k ∙ ap (λ (ts : List Pterm). any_of occurs_in_term ts k) (sym c.as_slice.ensures))
