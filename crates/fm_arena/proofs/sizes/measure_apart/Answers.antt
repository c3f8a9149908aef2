use Rattle.std.proofs.Common.{◌≡◌, ◌+◌, ℕ, List, false, map, subst}
use Rattle.std.specs.Prelude.{max, nat_le, nat_lt, ◌&&◌}
use Rattle.fm_arena.specs.Measures.{total, deepest, all_pairs, pair_measure}
use Rattle.fm_arena.specs.Kept.{kept_at}
use Rattle.fm_arena.specs.declared.sizes.Measure.{Measure}
use Rattle.fm_arena.proofs.Measuring.{none_fits, pairs_go}
use Rattle.fm_arena.proofs.sizes.measure_apart.Goals as goal

pub returns-in-None-clause-fit : goal.returns-in-None-clause-fit
returns-in-None-clause-fit c =
    let es = c.args.entries.now in
    let p = all_pairs (map (kept_at es) c.args.parts.now) in
    let tail = map (kept_at es) c.in-Some.tail.now in
    let sum = c.loop-first.sum in
    let opened = c.in-Some.ensures.cases.0 in
    let size = subst (λ (l : List ℕ). sum.size + total (all_pairs (map (kept_at es) l)) ≡ 1 + total p) opened c.loop-first.invariant.size in
    let depth = subst (λ (l : List ℕ). max sum.depth (deepest (all_pairs (map (kept_at es) l))) ≡ deepest p) opened c.loop-first.invariant.depth in
    let fit = subst (λ (m : Measure). false ≡ nat_le (sum.size + total (map (pair_measure m) tail)) 1000000 && nat_lt (max sum.depth (deepest (map (pair_measure m) tail))) 400) c.kept.ensures c.in-None.ensures.fit in
    none_fits sum.size sum.depth (map (pair_measure (kept_at es c.in-Some.first.now)) tail) (all_pairs tail) p size depth fit

pub loop-first-preserved : goal.loop-first-preserved
loop-first-preserved c =
    let es = c.args.entries.now in
    let p = all_pairs (map (kept_at es) c.args.parts.now) in
    let tail = map (kept_at es) c.in-Some.tail.now in
    let sum = c.loop-first.sum in
    let more = c.in-Some-with_pairs.more in
    let opened = c.in-Some.ensures.cases.0 in
    let size = subst (λ (l : List ℕ). sum.size + total (all_pairs (map (kept_at es) l)) ≡ 1 + total p) opened c.loop-first.invariant.size in
    let depth = subst (λ (l : List ℕ). max sum.depth (deepest (all_pairs (map (kept_at es) l))) ≡ deepest p) opened c.loop-first.invariant.depth in
    let s = subst (λ (m : Measure). more.size ≡ sum.size + total (map (pair_measure m) tail)) c.kept.ensures c.in-Some-with_pairs.ensures.size in
    let d = subst (λ (m : Measure). more.depth ≡ max sum.depth (deepest (map (pair_measure m) tail))) c.kept.ensures c.in-Some-with_pairs.ensures.depth in
    let both = pairs_go sum.size sum.depth more.size more.depth (map (pair_measure (kept_at es c.in-Some.first.now)) tail) (all_pairs tail) p size depth s d in
    record {
      size = both.0;
      few = c.in-Some-with_pairs.ensures.few;
      depth = both.1;
      shallow = c.in-Some-with_pairs.ensures.shallow;
    }
