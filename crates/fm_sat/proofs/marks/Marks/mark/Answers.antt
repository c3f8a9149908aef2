use Rattle.std.proofs.Common.{◌≡◌, ◌<◌, ◌≤◌, true, false, Some, length, slice_get, refl, sym, subst, ap, ◌∙◌, arith}
use Rattle.std.specs.Prelude.{List, slice_set, ◌++◌, ◌∷◌, []}
use Rattle.std.proofs.lemmas.Option.{slice_get_read, slice_get_within}
use Rattle.fm_base.specs.declared.ids.Lit.{Lit}
use Rattle.fm_base.specs.Resolution.{opposite}
use Rattle.fm_trail.specs.declared.entry.Entry.{Entry}
use Rattle.fm_sat.specs.Marks.{AreCounted}
use Rattle.fm_sat.proofs.Counts.{count_within, mark_again, mark_one}
use Rattle.fm_sat.proofs.Counted.{counted_lower, counted_top, same_entry}
use Rattle.fm_sat.proofs.marks.Marks.mark.Goals as goal

pub overflow_add-self : goal.overflow_add-self
overflow_add-self c =
    let ms = c.args.self.now.marks.items in
    let lt : c.args.place < length ms = omega (arith, c.requires.counted.whole, slice_get_within c.args.trail.now.entries c.args.place c.requires.entry.0 c.requires.entry.1) in
    let not' : slice_get ms c.args.place ≡ Some false = slice_get_read ms (length ms) c.args.place c.index.result.now refl lt c.index.ensures ∙ ap Some c.if-not-index.true in
    let k = counted_top c.args.trail.now.entries c.args.top c.args.self.now.marks.items c.args.self.now.count c.args.self.now.lower.items c.args.place c.entry-entry.result c.requires.counted not' c.entry-entry.ensures c.if-entry-top.true in
    omega (arith, k.count_is, k.whole, c.requires.counted.whole, count_within c.args.top (slice_set ms c.args.place true) c.args.trail.now.entries)

pub returns-then-entry-top-clause-counted : goal.returns-then-entry-top-clause-counted
returns-then-entry-top-clause-counted c =
    let ms = c.args.self.now.marks.items in
    let lt : c.args.place < length ms = omega (arith, c.requires.counted.whole, slice_get_within c.args.trail.now.entries c.args.place c.requires.entry.0 c.requires.entry.1) in
    let not' : slice_get ms c.args.place ≡ Some false = slice_get_read ms (length ms) c.args.place c.index.result.now refl lt c.index.ensures ∙ ap Some c.if-not-index.true in
    counted_top c.args.trail.now.entries c.args.top c.args.self.now.marks.items c.args.self.now.count c.args.self.now.lower.items c.args.place c.entry-entry.result c.requires.counted not' c.entry-entry.ensures c.if-entry-top.true

pub returns-then-entry-top-clause-marked : goal.returns-then-entry-top-clause-marked
returns-then-entry-top-clause-marked c =
    let ms = c.args.self.now.marks.items in
    let lt : c.args.place < length ms = omega (arith, c.requires.counted.whole, slice_get_within c.args.trail.now.entries c.args.place c.requires.entry.0 c.requires.entry.1) in
    mark_one ms c.args.place lt

pub returns-in_ok-push-clause-counted : goal.returns-in_ok-push-clause-counted
returns-in_ok-push-clause-counted c =
    let ms = c.args.self.now.marks.items in
    let lt : c.args.place < length ms = omega (arith, c.requires.counted.whole, slice_get_within c.args.trail.now.entries c.args.place c.requires.entry.0 c.requires.entry.1) in
    let not' : slice_get ms c.args.place ≡ Some false = slice_get_read ms (length ms) c.args.place c.index.result.now refl lt c.index.ensures ∙ ap Some c.if-not-index.true in
    let same = same_entry c.args.trail.now.entries c.args.place c.requires.entry.0 c.entry-entry.result c.requires.entry.1 c.entry-entry.ensures in
    let le : c.entry-entry.result.level ≤ c.args.top = subst (λ (e : Entry). e.level ≤ c.args.top) same c.requires.entry.2 in
    let ne = c.if-entry-top.false in
    let less : c.entry-entry.result.level < c.args.top = omega arith in
    let k = counted_lower c.args.trail.now.entries c.args.top c.args.self.now.marks.items c.args.self.now.count c.args.self.now.lower.items c.args.place c.entry-entry.result c.requires.once c.requires.counted not' c.entry-entry.ensures less in
    let p : c.push.new.self.items ≡ c.args.self.now.lower.items ++ opposite c.entry-entry.result.lit ∷ [] = c.in_ok-push.ensures.items ∙ ap (λ (l : Lit). c.args.self.now.lower.items ++ l ∷ []) c.opposite.ensures in
    subst (λ (xs : List Lit). AreCounted c.args.trail.now.entries c.args.top (slice_set ms c.args.place true) c.args.self.now.count xs) (sym p) k

pub returns-in_ok-push-clause-marked : goal.returns-in_ok-push-clause-marked
returns-in_ok-push-clause-marked c =
    let ms = c.args.self.now.marks.items in
    let lt : c.args.place < length ms = omega (arith, c.requires.counted.whole, slice_get_within c.args.trail.now.entries c.args.place c.requires.entry.0 c.requires.entry.1) in
    mark_one ms c.args.place lt

pub returns-else-not-index-clause-marked : goal.returns-else-not-index-clause-marked
returns-else-not-index-clause-marked c =
    let ms = c.args.self.now.marks.items in
    let lt : c.args.place < length ms = omega (arith, c.requires.counted.whole, slice_get_within c.args.trail.now.entries c.args.place c.requires.entry.0 c.requires.entry.1) in
    mark_again ms c.args.place (slice_get_read ms (length ms) c.args.place c.index.result.now refl lt c.index.ensures ∙ ap Some c.if-not-index.false)
