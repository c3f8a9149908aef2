use Rattle.std.proofs.Common.{[], ◌≡◌, ℕ, ◌<◌, ◌-◌, ◌+◌, suc, zero, length, not, ◌&&◌, sym, ap, ◌∙◌, arith}
use Rattle.std.specs.Prelude.{◌==◌}
use Rattle.std.proofs.lemmas.Bool.{and_parts, eq-eqb, false≢true}
use Rattle.std.proofs.lemmas.List.Quantifiers.{position-Some}
use Rattle.fm_region.specs.Parts.{regions_of}
use Rattle.fm_bank.specs.Regions.{closed_within, first_open, first_touching, is_closed_at, region_at, touches}
use Rattle.fm_region.specs.Rows.{apart_in}
use Rattle.fm_region.proofs.Fronts.{front_closed}
use Rattle.fm_region.proofs.Keeping.{parts_long}
use Rattle.fm_region.proofs.Rounds.{closed_alone, closed_stays, closed_step, none_left}
use Rattle.fm_region.proofs.Searching.{found}
use Rattle.fm_region.proofs.closing.close.Goals as goal

pub returns-in-None-clause-closed : goal.returns-in-None-clause-closed
returns-in-None-clause-closed c =
    let left = length c.args.parts.now - c.loop-round._round in
    let apart = apart_in c.args.near.now in
    let none = ap (λ ps. first_open apart c.args.classes.now c.args.k (regions_of ps)) (sym c.as_slice.ensures) ∙ (sym c.in_ok-i.ensures ∙ c.in-None.is) in
    sym (closed_stays apart c.args.classes.now c.args.k left (regions_of c.loop-round.parts) none) ∙ c.loop-round.invariant.rest

pub returns-in-None-touching_region-clause-closed : goal.returns-in-None-touching_region-clause-closed
returns-in-None-touching_region-clause-closed c =
    let left = length c.args.parts.now - c.loop-round._round in
    let apart = apart_in c.args.near.now in
    let some = ap (λ ps. first_open apart c.args.classes.now c.args.k (regions_of ps)) (sym c.as_slice.ensures) ∙ (sym c.in_ok-i.ensures ∙ c.in-Some.is) in
    let none = ap (λ ps. first_touching apart (regions_of ps) c.in-Some.i) (sym c.as_slice-in-loop-round.ensures) ∙ (sym c.touching_region.ensures ∙ c.in-None-touching_region.is) in
    sym (closed_alone apart c.args.classes.now c.args.k left (regions_of c.loop-round.parts) c.in-Some.i some none) ∙ c.loop-round.invariant.rest

pub merge-requires-clause-j : goal.merge-requires-clause-j
merge-requires-clause-j c =
    let apart = apart_in c.args.near.now in
    let rs = regions_of c.loop-round.parts in
    let long = parts_long c.loop-round.parts in
    let some = ap (λ ps. first_touching apart (regions_of ps) c.in-Some.i) (sym c.as_slice-in-loop-round.ensures) ∙ (sym c.touching_region.ensures ∙ c.in-Some-touching_region.is) in
    let f = found (λ j. not (j == c.in-Some.i) && touches apart (region_at rs c.in-Some.i) (region_at rs j)) 0 (length rs) c.in-Some-touching_region.j some in
    let lt = f.below in
    omega (arith, lt, long)

pub merge-requires-clause-differ : goal.merge-requires-clause-differ
merge-requires-clause-differ c = λ same.
    let apart = apart_in c.args.near.now in
    let rs = regions_of c.loop-round.parts in
    let i = c.in-Some.i in
    let j = c.in-Some-touching_region.j in
    let some = ap (λ ps. first_touching apart (regions_of ps) i) (sym c.as_slice-in-loop-round.ensures) ∙ (sym c.touching_region.ensures ∙ c.in-Some-touching_region.is) in
    let f = found (λ z. not (z == i) && touches apart (region_at rs i) (region_at rs z)) 0 (length rs) j some in
    let parts = and_parts (not (j == i)) (touches apart (region_at rs i) (region_at rs j)) f.passes in
    false≢true (sym (ap not (eq-eqb j i (sym same))) ∙ parts.0)

pub loop-round-preserved : goal.loop-round-preserved
loop-round-preserved c =
    let n = length c.args.parts.now in
    let left = n - (c.loop-round._round + 1) in
    let apart = apart_in c.args.near.now in
    let classes = c.args.classes.now in
    let rs = regions_of c.loop-round.parts in
    let i = c.in-Some.i in
    let j = c.in-Some-touching_region.j in
    let some = ap (λ ps. first_open apart classes c.args.k (regions_of ps)) (sym c.as_slice.ensures) ∙ (sym c.in_ok-i.ensures ∙ c.in-Some.is) in
    let other = ap (λ ps. first_touching apart (regions_of ps) i) (sym c.as_slice-in-loop-round.ensures) ∙ (sym c.touching_region.ensures ∙ c.in-Some-touching_region.is) in
    let lt : c.loop-round._round < n = omega (arith, c.loop-round-test.true, c.len-round-end.ensures) in
    let more : n - c.loop-round._round ≡ suc left = omega (arith, lt) in
    record {
      rest = ap (closed_within apart classes c.args.k left) c.in_ok-merge.ensures.joined ∙ (sym (closed_step apart classes c.args.k left rs i j some other) ∙ (ap (λ (m : ℕ). closed_within apart classes c.args.k m rs) (sym more) ∙ c.loop-round.invariant.rest));
      front = λ m l. ap (λ xs. is_closed_at apart classes c.args.k (region_at xs m)) c.in_ok-merge.ensures.joined ∙ front_closed apart classes c.args.k rs i j (let a = position-Some (λ r. not (is_closed_at apart classes c.args.k r)) rs i [] some in a.0) (let f = found (λ z. not (z == i) && touches apart (region_at rs i) (region_at rs z)) 0 (length rs) j other in let b = f.below in omega (arith, b)) some m (let e = c.min-from.ensures in omega (arith, l, e));
      kept = c.in_ok-merge.ensures.kept;
    }

pub returns-clause-closed : goal.returns-clause-closed
returns-clause-closed c =
    let n = length c.args.parts.now in
    let none : n - c.loop-round._round ≡ zero = omega (arith, c.loop-round-test.false, c.len-round-end.ensures) in
    let apart = apart_in c.args.near.now in
    let rs = regions_of c.loop-round.parts in
    let long = parts_long c.args.parts.now in
    sym (none_left apart c.args.classes.now c.args.k rs) ∙ (ap (λ (m : ℕ). closed_within apart c.args.classes.now c.args.k m rs) (sym none) ∙ c.loop-round.invariant.rest)
