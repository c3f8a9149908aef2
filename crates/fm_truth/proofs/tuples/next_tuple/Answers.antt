use Rattle.std.proofs.Common.{◌≡◌, ℕ, ◌+◌, ◌-◌, ◌<◌, ◌≤◌, length, drop, get_or, subst, ◌∙◌, arith}
use Rattle.std.proofs.lemmas.List.{take-set-le}
use Rattle.std.specs.Prelude.{None}
use Rattle.fm_base.specs.Interpretations.{reading_of}
use Rattle.fm_base.specs.declared.ids.SortId.{SortId}
use Rattle.fm_truth.specs.Tuples.{next_of, tuple_of}
use Rattle.fm_truth.proofs.Scopes.{Begun, begun_more, next_ends, next_grows}
use Rattle.fm_truth.proofs.tuples.next_tuple.Goals as goal

pub returns-then-vars-depth-clause-next : goal.returns-then-vars-depth-clause-next
returns-then-vars-depth-clause-next c =
    let m = reading_of c.args.interp.now in
    let ss = c.args.sorts.now in
    let d = c.args.depth in
    let old = c.args.vars.now in
    let i : ℕ = c.loop-i.i - 1 in
    let none : SortId = record { 0 = 0 } in
    let same : c.loop-i.i ≡ i + 1 = omega arith in
    let begun : Begun ss d (i + 1) old c.loop-i.vars = subst (λ k. Begun ss d k old c.loop-i.vars) same c.loop-i.invariant.begun in
    let ends = subst (λ k. next_of m (drop k ss) (drop k (tuple_of ss d old)) ≡ None) same c.loop-i.invariant.ends in
    let grows : get_or c.loop-i.vars (d + i) 0 + 1 < m.size (get_or ss i none).0 = omega (arith, c.if-vars-depth.true, c.saturating_sub-last.ensures, c.size.ensures) in
    next_grows m ss d i none old c.loop-i.vars (omega (arith, c.loop-i.invariant.within)) c.requires begun grows ends

pub loop-i-preserved : goal.loop-i-preserved
loop-i-preserved c =
    let m = reading_of c.args.interp.now in
    let ss = c.args.sorts.now in
    let d = c.args.depth in
    let old = c.args.vars.now in
    let i : ℕ = c.loop-i.i - 1 in
    let none : SortId = record { 0 = 0 } in
    let same : c.loop-i.i ≡ i + 1 = omega arith in
    let lt : i < length ss = omega (arith, c.loop-i.invariant.within) in
    let begun : Begun ss d (i + 1) old c.loop-i.vars = subst (λ k. Begun ss d k old c.loop-i.vars) same c.loop-i.invariant.begun in
    let ends = subst (λ k. next_of m (drop k ss) (drop k (tuple_of ss d old)) ≡ None) same c.loop-i.invariant.ends in
    let le : m.size (get_or ss i none).0 ≤ get_or c.loop-i.vars (d + i) 0 + 1 = omega (arith, c.if-vars-depth.false, c.saturating_sub-last.ensures, c.size.ensures) in
    record {
      within = omega (arith, lt);
      begun = begun_more ss d i none old c.loop-i.vars lt c.requires begun;
      ends = next_ends m ss d i none old c.loop-i.vars lt c.requires begun le ends;
      same = take-set-le d c.loop-i.vars (d + i) 0 (omega arith) ∙ c.loop-i.invariant.same;
    }
