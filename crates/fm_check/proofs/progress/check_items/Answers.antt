use Rattle.std.proofs.Common.{◌≡◌, ◌+◌, ◌∙◌, List, drop, length, ap, sym, subst}
use Rattle.std.proofs.lemmas.List.{drop_all}
use Rattle.fm_sexp.specs.declared.items.Sexp.{Sexp}
use Rattle.fm_elab.specs.Checks.{refused_from}
use Rattle.fm_elab.specs.Held.{state_of}
use Rattle.fm_check.specs.Carrying.{Finds}
use Rattle.fm_check.specs.Scripts.{problems_from}
use Rattle.fm_check.proofs.Carried.{free_here}
use Rattle.fm_check.proofs.Finding.{ends_with, found_now, good_now}
use Rattle.fm_check.proofs.Lists.{at_item, within_next}
use Rattle.fm_check.proofs.progress.check_items.Goals as goal

pub check_item-requires-clause-free : goal.check_item-requires-clause-free
check_item-requires-clause-free c = free_here c.args.text.now (state_of c.loop-item.scopes) c.item-item.result (drop (c.loop-item.item-index + 1) c.args.items.now) (ap (refused_from c.args.text.now (state_of c.loop-item.scopes)) (sym (at_item c.args.items.now c.loop-item.item-index c.item-item.result c.loop-item-test.true c.item-item.is)) ∙ c.loop-item.invariant.free)

pub returns-in-Found : goal.returns-in-Found
returns-in-Found c =
    let at = at_item c.args.items.now c.loop-item.item-index c.item-item.result c.loop-item-test.true c.item-item.is in
    let here = found_now c.args.text.now (state_of c.loop-item.scopes) (state_of c.check_item.new.scopes) c.item-item.result c.loop-item.reader c.check_item.new.reader c.loop-item.claims.items c.check_item.new.claims.items c.in_ok-check_item.field-0 c.in-Found.found c.in-Found.is c.in_ok-check_item.ensures (drop (c.loop-item.item-index + 1) c.args.items.now) in
    c.loop-item.invariant.finds c.in-Found.found c.check_item.new.claims.items (subst (λ (ys : List Sexp). Finds (problems_from c.args.text.now (state_of c.loop-item.scopes) ys) c.loop-item.reader c.loop-item.claims.items c.in-Found.found c.check_item.new.claims.items) (sym at) here)

pub loop-item-preserved : goal.loop-item-preserved
loop-item-preserved c =
    let at = at_item c.args.items.now c.loop-item.item-index c.item-item.result c.loop-item-test.true c.item-item.is in
    let rest : List Sexp = drop (c.loop-item.item-index + 1) c.args.items.now in
    let now = good_now c.args.text.now (state_of c.loop-item.scopes) (state_of c.check_item.new.scopes) c.item-item.result c.loop-item.reader c.check_item.new.reader c.loop-item.claims.items c.check_item.new.claims.items c.in_ok-check_item.field-0 c.in-Good.is c.in_ok-check_item.ensures in
    record {
      finds = λ found last finds. c.loop-item.invariant.finds found last (subst (λ (ys : List Sexp). Finds (problems_from c.args.text.now (state_of c.loop-item.scopes) ys) c.loop-item.reader c.loop-item.claims.items found last) (sym at) (now.finds rest found last finds));
      free = sym (now.free rest) ∙ (ap (refused_from c.args.text.now (state_of c.loop-item.scopes)) (sym at) ∙ c.loop-item.invariant.free);
      sorted = now.sorted;
      reading = now.reading;
      within = (within_next (length c.args.text.now) c.args.items.now c.loop-item.item-index c.item-item.result c.loop-item-test.true c.loop-item.invariant.within).1;
    }

pub returns : goal.returns
returns c = c.loop-item.invariant.finds c.in_ok-found.found c.loop-item.claims.items (ends_with c.loop-item.reader c.loop-item.claims.items (problems_from c.args.text.now (state_of c.loop-item.scopes) (drop c.loop-item.item-index c.args.items.now)) c.in_ok-found.found (ap (problems_from c.args.text.now (state_of c.loop-item.scopes)) (drop_all c.loop-item.item-index c.args.items.now c.loop-item-test.false)) c.in_ok-found.ensures.good c.in_ok-found.ensures.bad)
