use Rattle.std.proofs.Common.{◌≡◌, suc, ◌+◌, ◌<◌, ◌++◌, drop, get_or, length, map, take, subst, arith}
use Rattle.std.specs.Prelude.{slice_set}
use Rattle.std.proofs.lemmas.Option.{slice_get-get_or}
use Rattle.fm_guide.specs.Watches.{with_event}
use Rattle.fm_watching.specs.Told.{Seen}
use Rattle.fm_watching.proofs.Changed.{told_more, told_some}
use Rattle.fm_watching.proofs.telling.tell_each.Goals as goal

-- src/telling.rt:22:27
pub returns-in-Err-clause-err : goal.returns-in-Err-clause-err
returns-in-Err-clause-err g c =
    let i = c.loop-watch.watch-index in
    let lt : i < length c.loop-watch.watches = (let a = c.loop-watch-test.true in let b = c.loop-watch.auto.watches in omega (arith, a, b)) in
    let at = slice_get-get_or c.loop-watch.watches i c.watch-item.result lt in
    told_some (λ w. (goal.Watch-dyn g (w.vtable, w.value)).seen w.value) c.args.event.now (map (λ w. (goal.Watch-dyn g (w.vtable, w.value)).seen w.value) c.args.watches.now)
    c.loop-watch.watches i (get_or c.loop-watch.watches i c.watch-item.result) c.tell_one.new.watch at c.loop-watch.invariant c.in-Err.ensures.err

-- src/telling.rt:19:5
pub loop-watch-preserved : goal.loop-watch-preserved
loop-watch-preserved g c =
    let i = c.loop-watch.watch-index in
    let lt : i < length c.loop-watch.watches = (let a = c.loop-watch-test.true in let b = c.loop-watch.auto.watches in omega (arith, a, b)) in
    let at = slice_get-get_or c.loop-watch.watches i c.watch-item.result lt in
    let old : Seen = map (λ w. (goal.Watch-dyn g (w.vtable, w.value)).seen w.value) c.args.watches.now in
    let next : suc i ≡ i + 1 = omega arith in
    subst (λ n. map (λ w. (goal.Watch-dyn g (w.vtable, w.value)).seen w.value) (slice_set c.loop-watch.watches i c.tell_one.new.watch) ≡ map (with_event c.args.event.now) (take n old) ++ drop n old) next
    (told_more (λ w. (goal.Watch-dyn g (w.vtable, w.value)).seen w.value) c.args.event.now old c.loop-watch.watches i (get_or c.loop-watch.watches i c.watch-item.result) c.tell_one.new.watch at c.loop-watch.invariant c.in-Ok.ensures.told)
