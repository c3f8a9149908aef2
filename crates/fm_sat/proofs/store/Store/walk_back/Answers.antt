use Rattle.std.proofs.Common.{ℕ, List, sym, subst, arith}
use Rattle.fm_base.specs.declared.ids.Lit.{Lit}
use Rattle.fm_sat.specs.Learning.{Derives}
use Rattle.fm_sat.specs.Marks.{marked}
use Rattle.fm_sat.proofs.Counts.{count_some}
use Rattle.fm_sat.proofs.Steps.{derives_more, step_from}
use Rattle.fm_sat.proofs.store.Store.walk_back.Goals as goal

pub last_below-end-requires-clause-some : goal.last_below-end-requires-clause-some
last_below-end-requires-clause-some c =
    let q = count_some c.args.top c.loop-marks.marks.marks.items c.args.trail.now.entries (omega (arith, c.loop-marks.invariant.counted.count_is)) in
    (q.0, q.1.mark, c.loop-marks.invariant.below q.0 q.1.mark)

pub loop-marks-preserved : goal.loop-marks-preserved
loop-marks-preserved c =
    let cs = c.args.self.now.clauses in
    let es = c.args.trail.now.entries in
    let start = marked c.args.marks.now.marks.items es in
    let mid = marked c.loop-marks.marks.marks.items es in
    let end = marked c.resolve_last.new.marks.marks.items es in
    let s = c.in_ok-step.step in
    record {
      derived = subst (λ (ss : List (Lit × ℕ)). Derives c.args.keep cs es start ss end) (sym c.in_ok-push.ensures.items) (derives_more c.args.keep cs es start c.loop-marks.steps.items mid s end c.loop-marks.invariant.derived (λ now same. step_from c.args.keep cs es now mid s.0 s.1 end same c.in_ok-step.ensures.step));
      counted = c.in_ok-step.ensures.counted;
      some = omega (arith, c.in_ok-step.ensures.fewer);
      below = c.in_ok-step.ensures.below;
      within = omega (arith, c.last_below-end.ensures.below);
    }
