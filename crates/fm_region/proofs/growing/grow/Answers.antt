use Rattle.std.proofs.Common.{◌≡◌, ℕ, ◌<◌, ◌-◌, ◌+◌, suc, zero, List, length, sym, ap, subst, ◌∙◌, arith}
use Rattle.fm_region.specs.Parts.{regions_of}
use Rattle.fm_bank.specs.Regions.{Cover, after_join, closed, grown_within, must_grow}
use Rattle.fm_region.specs.Rows.{apart_in}
use Rattle.fm_region.proofs.Ascending.{up_distinct}
use Rattle.fm_region.proofs.Covering.{closed_cover, cover_join}
use Rattle.fm_region.proofs.Keeping.{all_up, parts_long}
use Rattle.fm_region.proofs.Stages.{grown_end, grown_stays, grown_step, two_there}
use Rattle.fm_region.proofs.growing.grow.Goals as goal

pub returns-then-not-grows : goal.returns-then-not-grows
returns-then-not-grows c =
    let left = length c.args.parts.now - c.loop-round._round in
    let none = ap (λ ps. must_grow c.args.classes.now c.args.k (regions_of ps)) (sym c.as_slice.ensures) ∙ (sym c.grows.ensures ∙ c.if-not-grows.true) in
    record { grown = sym (grown_stays (apart_in c.args.near.now) c.args.classes.now c.args.k left (regions_of c.loop-round.parts) none) ∙ c.loop-round.invariant.rest }

pub merge-requires-clause-i : goal.merge-requires-clause-i
merge-requires-clause-i c =
    let apart = apart_in c.args.near.now in
    let classes = c.args.classes.now in
    let must = ap (λ ps. must_grow classes c.args.k (regions_of ps)) (sym c.as_slice.ensures) ∙ (sym c.grows.ensures ∙ c.if-not-grows.false) in
    let t = two_there apart classes c.args.k (up_distinct classes (all_up apart classes c.requires.table)) (regions_of c.loop-round.parts) c.loop-round.invariant.cover must in
    let long = parts_long c.loop-round.parts in
    omega (arith, t, long)

pub merge-requires-clause-j : goal.merge-requires-clause-j
merge-requires-clause-j c =
    let apart = apart_in c.args.near.now in
    let classes = c.args.classes.now in
    let must = ap (λ ps. must_grow classes c.args.k (regions_of ps)) (sym c.as_slice.ensures) ∙ (sym c.grows.ensures ∙ c.if-not-grows.false) in
    let t = two_there apart classes c.args.k (up_distinct classes (all_up apart classes c.requires.table)) (regions_of c.loop-round.parts) c.loop-round.invariant.cover must in
    let long = parts_long c.loop-round.parts in
    omega (arith, t, long)

pub loop-round-preserved : goal.loop-round-preserved
loop-round-preserved c =
    let n = length c.args.parts.now in
    let rs = regions_of c.loop-round.parts in
    let apart = apart_in c.args.near.now in
    let classes = c.args.classes.now in
    let k = c.args.k in
    let must = ap (λ ps. must_grow classes k (regions_of ps)) (sym c.as_slice.ensures) ∙ (sym c.grows.ensures ∙ c.if-not-grows.false) in
    let t = two_there apart classes k (up_distinct classes (all_up apart classes c.requires.table)) rs c.loop-round.invariant.cover must in
    let lt : c.loop-round._round < n = omega (arith, c.loop-round-test.true, c.len-round-end.ensures) in
    let left = n - (c.loop-round._round + 1) in
    let more : n - c.loop-round._round ≡ suc left = omega (arith, lt) in
    let together = after_join classes rs 0 1 in
    let same : regions_of c.close.new.parts ≡ closed apart classes k together = c.in_ok-close.ensures.closed ∙ ap (closed apart classes k) c.in_ok-merge.ensures.joined in
    record {
      rest = ap (grown_within apart classes k left) same ∙ (sym (grown_step apart classes k left rs must) ∙ (ap (λ (m : ℕ). grown_within apart classes k m rs) (sym more) ∙ c.loop-round.invariant.rest));
      cover = subst (λ (xs : List (List ℕ)). Cover xs classes) (sym same) (closed_cover apart classes k (length together) together (cover_join apart classes k rs 0 1 (omega (arith, t)) (omega (arith, t)) (λ e. omega (arith, e)) c.loop-round.invariant.cover));
      kept = c.in_ok-close.ensures.kept;
    }

pub returns : goal.returns
returns c =
    let n = length c.args.parts.now in
    let none : n - c.loop-round._round ≡ zero = omega (arith, c.loop-round-test.false, c.len-round-end.ensures) in
    let rs = regions_of c.loop-round.parts in
    record { grown = sym (grown_end (apart_in c.args.near.now) c.args.classes.now c.args.k rs) ∙ (ap (λ (m : ℕ). grown_within (apart_in c.args.near.now) c.args.classes.now c.args.k m rs) (sym none) ∙ c.loop-round.invariant.rest) }
