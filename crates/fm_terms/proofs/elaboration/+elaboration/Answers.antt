use Rattle.std.proofs.Common.{List, ap, arith, length, refl, subst, sym, ℕ, ◌+◌, ◌<◌, ◌∙◌, ◌≡◌}
use Rattle.std.specs.Prelude.{Err, None, Ok, max, min}
use Rattle.std.proofs.lemmas.List.{length-drop, length_push}
use Rattle.fm_levels.specs.Levels.{joined}
use Rattle.fm_base.specs.declared.refusal.Place.{Place}
use Rattle.fm_sexp.specs.declared.items.Sexp.{Sexp}
use Rattle.fm_script.specs.Commands.{name_of}
use Rattle.fm_script.specs.Shown.{name_shown}
use Rattle.fm_arena.specs.Meanings.{terms_of}
use Rattle.fm_apply.specs.Applied.{Context, and_then, function_at, function_named, in_force}
use Rattle.fm_apply.specs.Scoped.{AllBelow, IsShown, IsTerm, Moment, context_of, lower, named_in, names_in, number_term, places_in, terms_at}
use Rattle.fm_apply.proofs.Growing.{below_stays, context_stays, grows_longer, grows_refl, grows_trans, in_force_stays, named_stays, ready_stays}
use Rattle.fm_terms.specs.Elaborate.{Answer, Attribute as TheAttribute, Read, Reads, all_at, attributes_at, attributes_of, closes_at, items_in, list_at, nesting, nesting_all, none_read, outside, quantified_at, term_at, word_at}
use Rattle.fm_terms.specs.Scoped.{IsRead, attributes_shown, read_in, read_shown, reads_shown, shown_pairs, variables_from}
use Rattle.fm_terms.specs.declared.attributes.Attribute.{Attribute}
use Rattle.fm_terms.proofs.Nesting.{lent_nests, shown_length}
use Rattle.fm_terms.proofs.Stepping.{block_made, all_start, all_step, all_stopped, annotated_made, application_made, application_stopped, below_more, block_context, block_read, first_nests, inner_ready, leaves_as, length_bound, let_context, let_made, let_read, let_stopped, names_are, names_push, none_is, now_all, read_by, read_made, read_stopped, shown_long, shown_some, term_by, then_stopped, within_next}
use Rattle.fm_terms.proofs.elaboration.+elaboration.Goals as goal

pub all-loop-item-init : goal.all-loop-item-init
all-loop-item-init t c =
    let old = c.args.arena.now in
    let x = context_of (c.args.scope.now, c.args.frame.now) (terms_of old) in
    let empty = c.new-numbers.ensures.items in
    let none = none_is (terms_of old) (names_in c.args.frame.now) c.in-Ok.none c.in-Ok.ensures in
    record {
      rest = λ n less. all_start (term_at n) x (named_in (terms_of old) c.args.given.now) (now_all c.args.items.now) (terms_at old c.new-numbers.result.items) c.in-Ok.none (ap (terms_at old) empty) none;
      grows = grows_refl old;
      given = c.requires.ready.given;
      below = subst (λ (is : List ℕ). AllBelow (length (terms_of old)) is) (sym empty) tt;
      within = c.requires.within;
      low = let l = length_bound (terms_of old) (names_in c.args.frame.now) in omega (arith, none, l);
      count = let l = ap length empty in omega (arith, l);
    }

pub all-term-requires : goal.all-term-requires
all-term-requires t c =
    let lt : c.loop-item.item-index < length c.args.items.now = omega (arith, c.loop-item-test.true) in
    let w = lent_nests c.args.items.now c.loop-item.item-index c.item-item.result lt c.item-item.is in (
      omega (arith, c.decreases, w),
      (
        (within_next (length c.args.scope.now.text.now) c.args.items.now c.loop-item.item-index c.item-item.result lt c.item-item.is c.loop-item.invariant.within).0,
        ready_stays c.args.scope.now c.args.frame.now c.args.arena.now c.loop-item.arena c.args.given.now c.loop-item.given c.loop-item.invariant.grows c.requires.ready c.loop-item.invariant.given,
      ),
    )

pub all-returns-in-Err-term-clause-answer : goal.all-returns-in-Err-term-clause-answer
all-returns-in-Err-term-clause-answer t c =
    let lt : c.loop-item.item-index < length c.args.items.now = omega (arith, c.loop-item-test.true) in
    let w = lent_nests c.args.items.now c.loop-item.item-index c.item-item.result lt c.item-item.is in
    let old = c.args.arena.now in
    let mid = c.loop-item.arena in
    let ns = named_in (terms_of mid) c.loop-item.given in
    let m : Moment = (c.term.new.arena, c.term.new.given) in
    let same = context_stays c.args.scope.now old mid (names_in c.args.frame.now) (places_in c.args.frame.now) c.loop-item.invariant.grows c.requires.ready.functions c.requires.ready.bound in
    λ n less. all_stopped (term_at n) (context_of (c.args.scope.now, c.args.frame.now) (terms_of old)) ns c.args.items.now c.loop-item.item-index c.item-item.result _ (terms_at mid c.loop-item.numbers.items) c.loop-item.low m c.in-Err-term.fail lt c.item-item.is
    (c.loop-item.invariant.rest n less)
    (subst (λ (k : Context). IsRead m (Err c.in-Err-term.fail) (term_at n k ns c.item-item.result.now)) same (c.in-Err-term.ensures.answer n (omega (arith, w, less))))

pub all-loop-item-preserved : goal.all-loop-item-preserved
all-loop-item-preserved t c =
    let lt : c.loop-item.item-index < length c.args.items.now = omega (arith, c.loop-item-test.true) in
    let w = lent_nests c.args.items.now c.loop-item.item-index c.item-item.result lt c.item-item.is in
    let old = c.args.arena.now in
    let mid = c.loop-item.arena in
    let new = c.term.new.arena in
    let ns = named_in (terms_of mid) c.loop-item.given in
    let made = c.loop-item.numbers.items in
    let found = c.in-Ok-term.found in
    let pushed = c.in_ok-push-in-Ok-term.ensures.items in
    let r : Read = read_shown (new, c.term.new.given) found in
    let same = context_stays c.args.scope.now old mid (names_in c.args.frame.now) (places_in c.args.frame.now) c.loop-item.invariant.grows c.requires.ready.functions c.requires.ready.bound in
    let more = names_push mid new made c.push.new.self.items found.number (number_term new found.number) c.in-Ok-term.ensures.grows c.loop-item.invariant.below refl pushed in
    let longer = ap length pushed ∙ length_push made found.number in
    let d1 = length-drop c.loop-item.item-index c.args.items.now in
    let d2 = length-drop (c.loop-item.item-index + 1) c.args.items.now in
    record {
      rest = λ n less. all_step (term_at n) (context_of (c.args.scope.now, c.args.frame.now) (terms_of old)) ns c.args.items.now c.loop-item.item-index c.item-item.result _ (terms_at mid made) (terms_at new c.push.new.self.items) c.loop-item.low c.min-low.result r lt c.item-item.is
          (c.loop-item.invariant.rest n less)
          (subst (λ (k : Context). term_at n k ns c.item-item.result.now ≡ Ok r) same (c.in-Ok-term.ensures.answer n (omega (arith, w, less)))) more c.min-low.ensures;
      grows = grows_trans old mid new c.loop-item.invariant.grows c.in-Ok-term.ensures.grows;
      given = c.in-Ok-term.ensures.below.1;
      below = below_more (length (terms_of mid)) (length (terms_of new)) made c.push.new.self.items found.number (grows_longer mid new c.in-Ok-term.ensures.grows) pushed c.loop-item.invariant.below c.in-Ok-term.ensures.below.0;
      within = (within_next (length c.args.scope.now.text.now) c.args.items.now c.loop-item.item-index c.item-item.result lt c.item-item.is c.loop-item.invariant.within).1;
      low = let k = c.loop-item.invariant.low in omega (arith, k, c.min-low.ensures);
      count = let k = c.loop-item.invariant.count in omega (arith, longer, d1, d2, k, lt);
    }

pub annotated-attribute_all-requires-clause-ready : goal.annotated-attribute_all-requires-clause-ready
annotated-attribute_all-requires-clause-ready t c =
    ready_stays c.args.scope.now c.args.frame.now c.args.arena.now c.term.new.arena c.args.given.now c.term.new.given c.in-Ok.ensures.grows c.requires.ready c.in-Ok.ensures.below.1

pub annotated-returns-clause-answer : goal.annotated-returns-clause-answer
annotated-returns-clause-answer t c =
    let old = c.args.arena.now in
    let mid = c.term.new.arena in
    let x = context_of (c.args.scope.now, c.args.frame.now) (terms_of old) in
    let list = c.in-Some-2.list.items in
    let shown : List TheAttribute = attributes_shown list in
    let m : Moment = (c.attribute_all.new.arena, c.attribute_all.new.given) in
    let r : Read = read_in mid c.in-Ok.found (named_in (terms_of mid) c.term.new.given) in
    let same = context_stays c.args.scope.now old mid (names_in c.args.frame.now) (places_in c.args.frame.now) c.in-Ok.ensures.grows c.requires.ready.functions c.requires.ready.bound in
    let of = shown_some (attributes_of c.args.scope.now.text.now c.in-Some.rest.now) (λ v. attributes_shown v.items) c.in_ok-list.field-0 c.in-Some-2.list c.in_ok-list.ensures.value c.in-Some-2.is in
    let l1 = ap length c.as_slice.ensures.value in
    let l2 = shown_long list in
    let long : 0 < length shown = omega (arith, c.if-as_slice-lt1.false, l1, l2) in
    λ n less. read_by m c.attribute_all.result _ _
    (annotated_made (term_at n) x (named_in (terms_of old) c.args.given.now) c.args.at c.args.parts.now c.in-Some.rest.now c.in-Some.item.now shown r c.in-Some.ensures.cases.0 of long
    (c.in-Ok.ensures.answer n (first_nests c.args.parts.now c.in-Some.rest.now c.in-Some.item.now n c.in-Some.ensures.cases.0 less)))
    (subst (λ (k : Context). IsRead m c.attribute_all.result (attributes_at k c.args.at shown r)) same
    (subst (λ (l : List Attribute). IsRead m c.attribute_all.result (attributes_at (context_of (c.args.scope.now, c.args.frame.now) (terms_of mid)) c.args.at (attributes_shown l) r)) c.as_slice-in-Ok.ensures.value c.attribute_all.ensures.answer))

pub application-returns-in-Err-clause-answer : goal.application-returns-in-Err-clause-answer
application-returns-in-Err-clause-answer t c =
    let items = ap now_all c.as_slice.ensures.value ∙ c.in_ok-items.ensures in
    let old = c.args.arena.now in
    let x = context_of (c.args.scope.now, c.args.frame.now) (terms_of old) in
    let ns = named_in (terms_of old) c.args.given.now in
    let m : Moment = (c.all.new.arena, c.all.new.given) in
    λ n less. application_stopped (term_at n) x ns c.args.at (name_shown c.in-Some.part) _ c.args.parts.now m m c.in-Err.fail c.in-Some.ensures (omega (arith, c.if-parts-lt1.false))
    (subst (λ (xs : List Sexp). IsShown (reads_shown m) (Err c.in-Err.fail) (all_at (term_at n) x ns xs)) items (c.in-Err.ensures.answer n (subst (λ (xs : List Sexp). nesting_all xs < n) (sym items) less)))

pub application-function-requires-clause-ready : goal.application-function-requires-clause-ready
application-function-requires-clause-ready t c = in_force_stays c.args.arena.now c.all.new.arena (joined c.args.scope.now.functions.now) c.in-Ok.ensures.grows c.requires.ready.functions

pub application-returns-in-Err-function-clause-answer : goal.application-returns-in-Err-function-clause-answer
application-returns-in-Err-function-clause-answer t c =
    let items = ap now_all c.as_slice.ensures.value ∙ c.in_ok-items.ensures in
    let old = c.args.arena.now in
    let mid = c.all.new.arena in
    let new = c.function.new.arena in
    let x = context_of (c.args.scope.now, c.args.frame.now) (terms_of old) in
    let ns = named_in (terms_of old) c.args.given.now in
    let n1 = name_shown c.in-Some.part in
    let m : Moment = (mid, c.all.new.given) in
    let k : Moment = (new, c.all.new.given) in
    let rs : Reads = reads_shown m c.in-Ok.args in
    let same = context_stays c.args.scope.now old mid (names_in c.args.frame.now) (places_in c.args.frame.now) c.in-Ok.ensures.grows c.requires.ready.functions c.requires.ready.bound in
    let there = subst (λ (y : Context). IsTerm new (Err c.in-Err-function.fail) (function_at y c.args.at n1 c.args.parts.now rs.terms (function_named n1.bytes (in_force y rs.named)))) same (c.in-Err-function.ensures.answer c.args.frame.now) in
    λ n less. read_by k (Err c.in-Err-function.fail) _ _
    (application_made (term_at n) x ns c.args.at n1 _ c.args.parts.now rs c.in-Some.ensures (omega (arith, c.if-parts-lt1.false))
    (subst (λ (xs : List Sexp). all_at (term_at n) x ns xs ≡ Ok rs) items (c.in-Ok.ensures.answer n (subst (λ (xs : List Sexp). nesting_all xs < n) (sym items) less))))
    (read_stopped k new rs.named rs.low c.in-Err-function.fail (function_at x c.args.at n1 c.args.parts.now rs.terms (function_named n1.bytes (in_force x rs.named))) there)

pub application-returns-clause-answer : goal.application-returns-clause-answer
application-returns-clause-answer t c =
    let items = ap now_all c.as_slice.ensures.value ∙ c.in_ok-items.ensures in
    let old = c.args.arena.now in
    let mid = c.all.new.arena in
    let new = c.function.new.arena in
    let x = context_of (c.args.scope.now, c.args.frame.now) (terms_of old) in
    let ns = named_in (terms_of old) c.args.given.now in
    let n1 = name_shown c.in-Some.part in
    let m : Moment = (mid, c.all.new.given) in
    let k : Moment = (new, c.all.new.given) in
    let rs : Reads = reads_shown m c.in-Ok.args in
    let same = context_stays c.args.scope.now old mid (names_in c.args.frame.now) (places_in c.args.frame.now) c.in-Ok.ensures.grows c.requires.ready.functions c.requires.ready.bound in
    let there = subst (λ (y : Context). function_at y c.args.at n1 c.args.parts.now rs.terms (function_named n1.bytes (in_force y rs.named)) ≡ Ok (number_term new c.in-Ok-function.number)) same (c.in-Ok-function.ensures.answer c.args.frame.now) in
    λ n less. application_made (term_at n) x ns c.args.at n1 _ c.args.parts.now rs c.in-Some.ensures (omega (arith, c.if-parts-lt1.false))
    (subst (λ (xs : List Sexp). all_at (term_at n) x ns xs ≡ Ok rs) items (c.in-Ok.ensures.answer n (subst (λ (xs : List Sexp). nesting_all xs < n) (sym items) less)))
    ∙ read_made k rs.named rs.low c.in-Ok-function.number (function_at x c.args.at n1 c.args.parts.now rs.terms (function_named n1.bytes (in_force x rs.named))) (sym (named_stays mid new c.all.new.given c.in-Ok-function.ensures.grows c.in-Ok.ensures.below.1)) there

pub application-returns-clause-below : goal.application-returns-clause-below
application-returns-clause-below t c = (c.in-Ok-function.ensures.below, below_stays c.all.new.arena c.function.new.arena c.all.new.given c.in-Ok-function.ensures.grows c.in-Ok.ensures.below.1)

pub let_over-returns-in-Err-all-clause-answer : goal.let_over-returns-in-Err-all-clause-answer
let_over-returns-in-Err-all-clause-answer t c =
    let items = ap now_all c.as_slice.ensures.value ∙ c.in_ok-items.ensures in
    let old = c.args.arena.now in
    let x = context_of (c.args.scope.now, c.args.frame.now) (terms_of old) in
    let ns = named_in (terms_of old) c.args.given.now in
    let ps = shown_pairs c.args.pairs.now in
    let m : Moment = (c.all.new.arena, c.all.new.given) in
    λ n less.
    let h : max (nesting_all (items_in ps)) (nesting c.args.body.now) < n = less in
    let l : nesting_all (items_in ps) < n = omega (arith, h) in
    let_stopped (term_at n) x ns c.args.at ps c.args.body.now c.in-Ok.names m m c.in-Err-all.fail (omega (arith, c.if-pairs-lt1.false, shown_length c.args.pairs.now)) c.in-Ok.ensures
    (subst (λ (xs : List Sexp). IsShown (reads_shown m) (Err c.in-Err-all.fail) (all_at (term_at n) x ns xs)) items (c.in-Err-all.ensures.answer n (subst (λ (xs : List Sexp). nesting_all xs < n) (sym items) l)))

pub let_over-term-requires : goal.let_over-term-requires
let_over-term-requires t c =
    let old = c.args.arena.now in
    let mid = c.all.new.arena in
    let g = c.in-Ok-all.ensures.grows in (
      omega (arith, c.decreases),
      (
        c.requires.body,
        inner_ready c.args.scope.now c.args.frame c.in-Ok.names c.in-Ok-all.args.numbers c.places.result mid c.all.new.given
            (in_force_stays old mid (joined c.args.scope.now.functions.now) g c.requires.ready.functions) (below_stays old mid (names_in c.args.frame.now) g c.requires.ready.bound) c.in-Ok-all.ensures.below.0 c.in-Ok-all.ensures.below.1,
      ),
    )

pub let_over-returns-in-Err-term-clause-answer : goal.let_over-returns-in-Err-term-clause-answer
let_over-returns-in-Err-term-clause-answer t c =
    let items = ap now_all c.as_slice.ensures.value ∙ c.in_ok-items.ensures in
    let old = c.args.arena.now in
    let mid = c.all.new.arena in
    let x = context_of (c.args.scope.now, c.args.frame.now) (terms_of old) in
    let ns = named_in (terms_of old) c.args.given.now in
    let ps = shown_pairs c.args.pairs.now in
    let rs : Reads = reads_shown (mid, c.all.new.given) c.in-Ok-all.args in
    let m : Moment = (c.term.new.arena, c.term.new.given) in
    let inner = let_context c.args.scope.now c.args.frame c.in-Ok.names ps c.in-Ok-all.args.numbers c.places.result old mid c.in-Ok-all.ensures.grows c.requires.ready.functions c.requires.ready.bound (names_are ps c.in-Ok.names c.in-Ok.ensures) c.places.ensures in
    λ n less.
    let h : max (nesting_all (items_in ps)) (nesting c.args.body.now) < n = less in
    let l : nesting_all (items_in ps) < n = omega (arith, h) in
    let k : nesting c.args.body.now < n = omega (arith, h) in
    read_by m (Err c.in-Err-term.fail) _ _
    (let_made (term_at n) x _ ns c.args.at ps c.args.body.now c.in-Ok.names rs (omega (arith, c.if-pairs-lt1.false, shown_length c.args.pairs.now)) c.in-Ok.ensures
    (subst (λ (xs : List Sexp). all_at (term_at n) x ns xs ≡ Ok rs) items (c.in-Ok-all.ensures.answer n (subst (λ (xs : List Sexp). nesting_all xs < n) (sym items) l))) inner)
    (then_stopped m m c.in-Err-term.fail _ (outside x rs.low) (c.in-Err-term.ensures.answer n k))

pub let_over-returns-clause-answer : goal.let_over-returns-clause-answer
let_over-returns-clause-answer t c =
    let items = ap now_all c.as_slice.ensures.value ∙ c.in_ok-items.ensures in
    let old = c.args.arena.now in
    let mid = c.all.new.arena in
    let x = context_of (c.args.scope.now, c.args.frame.now) (terms_of old) in
    let ns = named_in (terms_of old) c.args.given.now in
    let ps = shown_pairs c.args.pairs.now in
    let rs : Reads = reads_shown (mid, c.all.new.given) c.in-Ok-all.args in
    let m : Moment = (c.term.new.arena, c.term.new.given) in
    let inner = let_context c.args.scope.now c.args.frame c.in-Ok.names ps c.in-Ok-all.args.numbers c.places.result old mid c.in-Ok-all.ensures.grows c.requires.ready.functions c.requires.ready.bound (names_are ps c.in-Ok.names c.in-Ok.ensures) c.places.ensures in
    λ n less.
    let h : max (nesting_all (items_in ps)) (nesting c.args.body.now) < n = less in
    let l : nesting_all (items_in ps) < n = omega (arith, h) in
    let k : nesting c.args.body.now < n = omega (arith, h) in
    let_read x rs.low m c.in-Ok-term.found (names_in c.args.frame.now) _ c.within_let.result (length_bound (terms_of old) (names_in c.args.frame.now))
    (let_made (term_at n) x _ ns c.args.at ps c.args.body.now c.in-Ok.names rs (omega (arith, c.if-pairs-lt1.false, shown_length c.args.pairs.now)) c.in-Ok.ensures
    (subst (λ (xs : List Sexp). all_at (term_at n) x ns xs ≡ Ok rs) items (c.in-Ok-all.ensures.answer n (subst (λ (xs : List Sexp). nesting_all xs < n) (sym items) l))) inner
    ∙ ap (λ (a : Answer). and_then a (outside x rs.low)) (c.in-Ok-term.ensures.answer n k))
    c.within_let.ensures

pub quantifier_over-term-requires : goal.quantifier_over-term-requires
quantifier_over-term-requires t c =
    let old = c.args.arena.now in
    let mid = c.variable_names.new.arena in
    let g = c.in-Ok-variable_names.ensures.grows in (
      omega (arith, c.decreases),
      (
        c.requires.body,
        inner_ready c.args.scope.now c.args.frame c.in-Ok.vars.names c.in-Ok-variable_names.numbers c.in-Some.deeper mid c.args.given.now
            (in_force_stays old mid (joined c.args.scope.now.functions.now) g c.requires.ready.functions) (below_stays old mid (names_in c.args.frame.now) g c.requires.ready.bound) c.in-Ok-variable_names.ensures.below (below_stays old mid c.args.given.now g c.requires.ready.given),
      ),
    )

pub quantifier_over-returns-in-Err-term-clause-answer : goal.quantifier_over-returns-in-Err-term-clause-answer
quantifier_over-returns-in-Err-term-clause-answer t c =
    let old = c.args.arena.now in
    let mid = c.variable_names.new.arena in
    let x = context_of (c.args.scope.now, c.args.frame.now) (terms_of old) in
    let ps = shown_pairs c.args.pairs.now in
    let ss = c.in-Ok.vars.sorts in
    let m : Moment = (c.term.new.arena, c.term.new.given) in
    let names = named_stays old mid c.args.given.now c.in-Ok-variable_names.ensures.grows c.requires.ready.given in
    let deep : c.in-Some.deeper ≡ c.places-base.result + length ss = omega (arith, c.in-Some.ensures, c.len.ensures) in
    let inner = block_context c.args.scope.now c.args.frame c.in-Ok.vars.names ps c.in-Ok-variable_names.numbers ss c.places-base.result c.in-Some.deeper old mid c.in-Ok-variable_names.ensures.grows c.requires.ready.functions c.requires.ready.bound
    c.in-Ok.ensures.names c.places-base.ensures (c.in-Ok-variable_names.ensures.terms ∙ ap (variables_from c.places-base.result) c.as_slice.ensures) deep in
    λ n less. read_by m (Err c.in-Err-term.fail) _ _
    (block_made (term_at n) x _ (named_in (terms_of old) c.args.given.now) (named_in (terms_of mid) c.args.given.now) c.args.all ps c.args.body.now ss _ c.in-Ok.ensures.sorts names inner)
    (then_stopped m m c.in-Err-term.fail _ (closes_at x c.args.all ss c.args.body.now) (c.in-Err-term.ensures.answer n less))

pub quantifier_over-returns-in-Err-close-clause-answer : goal.quantifier_over-returns-in-Err-close-clause-answer
quantifier_over-returns-in-Err-close-clause-answer t c =
    let old = c.args.arena.now in
    let mid = c.variable_names.new.arena in
    let x = context_of (c.args.scope.now, c.args.frame.now) (terms_of old) in
    let ps = shown_pairs c.args.pairs.now in
    let ss = c.in-Ok.vars.sorts in
    let m : Moment = (c.term.new.arena, c.term.new.given) in
    let names = named_stays old mid c.args.given.now c.in-Ok-variable_names.ensures.grows c.requires.ready.given in
    let deep : c.in-Some.deeper ≡ c.places-base.result + length ss = omega (arith, c.in-Some.ensures, c.len.ensures) in
    let inner = block_context c.args.scope.now c.args.frame c.in-Ok.vars.names ps c.in-Ok-variable_names.numbers ss c.places-base.result c.in-Some.deeper old mid c.in-Ok-variable_names.ensures.grows c.requires.ready.functions c.requires.ready.bound
    c.in-Ok.ensures.names c.places-base.ensures (c.in-Ok-variable_names.ensures.terms ∙ ap (variables_from c.places-base.result) c.as_slice.ensures) deep in
    let r : Read = read_shown m c.in-Ok-term.found in
    λ n less. read_by m (Err c.in-Err-close.fail) _ _
    (block_made (term_at n) x _ (named_in (terms_of old) c.args.given.now) (named_in (terms_of mid) c.args.given.now) c.args.all ps c.args.body.now ss _ c.in-Ok.ensures.sorts names inner
    ∙ ap (λ (a : Answer). and_then a (closes_at x c.args.all ss c.args.body.now)) (c.in-Ok-term.ensures.answer n less))
    (read_stopped m c.close.new.arena r.named (min (none_read x) r.low) c.in-Err-close.fail (quantified_at x c.args.all ss c.args.body.now r.term) (c.in-Err-close.ensures.answer x refl (sym c.places-base.ensures)))

pub quantifier_over-returns-clause-answer : goal.quantifier_over-returns-clause-answer
quantifier_over-returns-clause-answer t c =
    let old = c.args.arena.now in
    let mid = c.variable_names.new.arena in
    let x = context_of (c.args.scope.now, c.args.frame.now) (terms_of old) in
    let ps = shown_pairs c.args.pairs.now in
    let ss = c.in-Ok.vars.sorts in
    let names = named_stays old mid c.args.given.now c.in-Ok-variable_names.ensures.grows c.requires.ready.given in
    let deep : c.in-Some.deeper ≡ c.places-base.result + length ss = omega (arith, c.in-Some.ensures, c.len.ensures) in
    let inner = block_context c.args.scope.now c.args.frame c.in-Ok.vars.names ps c.in-Ok-variable_names.numbers ss c.places-base.result c.in-Some.deeper old mid c.in-Ok-variable_names.ensures.grows c.requires.ready.functions c.requires.ready.bound
    c.in-Ok.ensures.names c.places-base.ensures (c.in-Ok-variable_names.ensures.terms ∙ ap (variables_from c.places-base.result) c.as_slice.ensures) deep in
    λ n less. block_read x c.args.all ss c.args.body.now c.term.new.arena c.close.new.arena c.term.new.given c.in-Ok-term.found c.in-Ok-close.number (names_in c.args.frame.now) _ c.outside.result (length_bound (terms_of old) (names_in c.args.frame.now))
    c.in-Ok-close.ensures.grows c.in-Ok-term.ensures.below.1
    (block_made (term_at n) x _ (named_in (terms_of old) c.args.given.now) (named_in (terms_of mid) c.args.given.now) c.args.all ps c.args.body.now ss _ c.in-Ok.ensures.sorts names inner
    ∙ ap (λ (a : Answer). and_then a (closes_at x c.args.all ss c.args.body.now)) (c.in-Ok-term.ensures.answer n less))
    (c.in-Ok-close.ensures.answer x refl (sym c.places-base.ensures)) c.outside.ensures

pub quantifier_over-returns-clause-grows : goal.quantifier_over-returns-clause-grows
quantifier_over-returns-clause-grows t c =
    grows_trans c.args.arena.now c.term.new.arena c.close.new.arena (grows_trans c.args.arena.now c.variable_names.new.arena c.term.new.arena c.in-Ok-variable_names.ensures.grows c.in-Ok-term.ensures.grows) c.in-Ok-close.ensures.grows

pub quantifier_over-returns-clause-below : goal.quantifier_over-returns-clause-below
quantifier_over-returns-clause-below t c =
    leaves_as (c.close.new.arena, c.term.new.given) c.outside.result (lower (length (names_in c.args.frame.now)) (record { number = c.in-Ok-close.number; low = c.in-Ok-term.found.low })) c.outside.ensures c.in-Ok-close.ensures.below
    (below_stays c.term.new.arena c.close.new.arena c.term.new.given c.in-Ok-close.ensures.grows c.in-Ok-term.ensures.below.1)

pub term-returns-in-None-clause-answer : goal.term-returns-in-None-clause-answer
term-returns-in-None-clause-answer t c =
    let ts = terms_of c.args.arena.now in
    let x = context_of (c.args.scope.now, c.args.frame.now) ts in
    let ns = named_in ts c.args.given.now in
    let m : Moment = (c.word.new.arena, c.args.given.now) in
    λ n less. term_by n x ns c.args.item.now None m c.word.result c.in-None.ensures.value less
    (λ k e. subst (λ (p : Place). IsRead m c.word.result (word_at x ns p (name_of c.args.scope.now.text.now c.args.item.now))) c.place.ensures c.word.ensures.answer)

pub term-returns-in-Some-clause-answer : goal.term-returns-in-Some-clause-answer
term-returns-in-Some-clause-answer t c =
    let ts = terms_of c.args.arena.now in
    let x = context_of (c.args.scope.now, c.args.frame.now) ts in
    let ns = named_in ts c.args.given.now in
    let nests = c.in-Some.ensures.nests in
    let m : Moment = (c.list.new.arena, c.list.new.given) in
    λ n less. term_by n x ns c.args.item.now _ m c.list.result c.in-Some.ensures.value less
    (λ k e. subst (λ (p : Place). IsRead m c.list.result (list_at (term_at k) x ns p c.in-Some.items.now)) c.place-in-Some.ensures (c.list.ensures.answer k (omega (arith, nests, e, less))))
