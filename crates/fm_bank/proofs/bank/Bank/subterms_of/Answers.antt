use Rattle.std.proofs.lemmas.List.Sorted.{IsNonDecreasingBy-from_sort}
use Rattle.fm_base.specs.declared.ids.TermId.{TermId}
use Rattle.fm_bank.specs.Terms.{numbers}
use Rattle.fm_bank.proofs.Ascending.{sorted_below, sorted_rise, sorted_subterms}
use Rattle.fm_bank.proofs.bank.Bank.subterms_of.Goals as goal

pub returns-clause-subterms : goal.returns-clause-subterms
returns-clause-subterms c =
    sorted_subterms c.in_ok-found.found.keys c.as_slice.result.now c.in_ok-ids.ids.items c.sort.new.self.items c.as_slice.ensures.keys c.in_ok-ids.ensures.items c.in_ok-sort.ensures.permutation c.args.self.now.terms (numbers c.args.roots.now) c.in_ok-found.ensures.subterms

pub returns-clause-ascending : goal.returns-clause-ascending
returns-clause-ascending c =
    sorted_rise c.in_ok-found.found.keys c.as_slice.result.now c.in_ok-ids.ids.items c.sort.new.self.items c.as_slice.ensures.keys c.in_ok-ids.ensures.items c.in_ok-sort.ensures.permutation c.in_ok-found.ensures.once (IsNonDecreasingBy-from_sort (λ (t : TermId). t.0) c.sort.new.self.items c.in_ok-sort.ensures.sorted)

pub returns-clause-below : goal.returns-clause-below
returns-clause-below c =
    sorted_below c.in_ok-found.found.keys c.as_slice.result.now c.in_ok-ids.ids.items c.sort.new.self.items c.as_slice.ensures.keys c.in_ok-ids.ensures.items c.in_ok-sort.ensures.permutation c.args.self.now.terms c.in_ok-found.ensures.below
