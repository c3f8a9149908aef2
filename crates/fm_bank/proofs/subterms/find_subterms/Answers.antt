use Rattle.std.proofs.Common.{◌≡◌, ◌<◌, ◌+◌, ◌-◌, ℕ, List, [], Some, length, sym, ap, subst, ◌∙◌, arith}
use Rattle.std.specs.Prelude.{slice_get}
use Rattle.std.specs.Option.{option_map}
use Rattle.std.proofs.lemmas.Option.{slice_get-map}
use Rattle.fm_base.specs.declared.ids.TermId.{TermId}
use Rattle.fm_bank.specs.Terms.{numbers}
use Rattle.fm_bank.specs.Subterms.{all_added}
use Rattle.fm_bank.proofs.Walks.{IsWalk, below_numbers, number_below, numbers_below, numbers_long, walk_end, walk_next, walk_short, walk_start}
use Rattle.fm_bank.proofs.subterms.find_subterms.Goals as goal

pub loop-i-init : goal.loop-i-init
loop-i-init c =
    let here : numbers c.add_all.new.found.keys ≡ all_added [] (numbers c.args.roots.now) = c.in_ok-add_all.ensures ∙ ap (λ (ks : List TermId). all_added (numbers ks) (numbers c.args.roots.now)) c.new-found.ensures.empty in
    subst (λ (ns : List ℕ). IsWalk c.args.bank.now.terms (numbers c.args.roots.now) ns 0) (sym here) (walk_start c.args.bank.now.terms (numbers c.args.roots.now) (below_numbers c.args.bank.now.terms c.args.roots.now c.requires.roots))

pub term-requires : goal.term-requires
term-requires c =
    let here : slice_get c.loop-i.found.keys c.loop-i.i ≡ Some c.index.result.now = c.index.ensures in
    number_below c.args.bank.now.terms c.loop-i.found.keys c.loop-i.i c.index.result.now here c.loop-i.invariant.below

pub loop-i-smaller : goal.loop-i-smaller
loop-i-smaller c =
    let short = walk_short c.args.bank.now.terms (numbers c.args.roots.now) (numbers c.loop-i.found.keys) c.loop-i.i c.loop-i.invariant in
    let long = numbers_long c.loop-i.found.keys in
    let lt : length c.args.bank.now.terms - (c.loop-i.i + 1) < length c.args.bank.now.terms - c.loop-i.i = omega (arith, short, long, c.loop-i-test.true, c.len.ensures.len) in
    lt

pub loop-i-preserved : goal.loop-i-preserved
loop-i-preserved c =
    let here : slice_get c.loop-i.found.keys c.loop-i.i ≡ Some c.index.result.now = c.index.ensures in
    let at : slice_get (numbers c.loop-i.found.keys) c.loop-i.i ≡ Some c.index.result.now.0 = slice_get-map (λ (t : TermId). t.0) c.loop-i.found.keys c.loop-i.i ∙ ap (option_map (λ (t : TermId). t.0)) here in
    let next = walk_next c.args.bank.now.sig c.args.bank.now.terms (numbers c.args.roots.now) (numbers c.loop-i.found.keys) c.loop-i.i c.index.result.now.0 _ c.one_number_per_term.ensures.held.terms_good c.loop-i.invariant at c.term.ensures in
    subst (λ (ns : List ℕ). IsWalk c.args.bank.now.terms (numbers c.args.roots.now) ns (c.loop-i.i + 1)) (sym c.in_ok-add_all-2.ensures) next

pub returns-clause-subterms : goal.returns-clause-subterms
returns-clause-subterms c =
    let long = numbers_long c.loop-i.found.keys in
    walk_end c.args.bank.now.terms (numbers c.args.roots.now) (numbers c.loop-i.found.keys) c.loop-i.i c.loop-i.invariant (omega (arith, long, c.loop-i-test.false, c.len.ensures.len))

pub returns-clause-below : goal.returns-clause-below
returns-clause-below c = numbers_below c.args.bank.now.terms c.loop-i.found.keys c.loop-i.invariant.below

pub returns-clause-once : goal.returns-clause-once
returns-clause-once c = c.loop-i.invariant.once
