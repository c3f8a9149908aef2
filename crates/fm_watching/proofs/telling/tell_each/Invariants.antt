use Rattle.std.proofs.Common.{◌≡◌, ◌++◌, drop, map, take}
use Rattle.fm_guide.specs.Watches.{with_event}
use Rattle.fm_watching.specs.Told.{Seen}
use Rattle.fm_watching.proofs.telling.tell_each.Given as goal

-- the first ones were told
abbrev pub invariant-loop-watch : goal.invariant-loop-watch
invariant-loop-watch g l =
    let old : Seen = map (λ w. (goal.Watch-dyn g (w.vtable, w.value)).seen w.value) l.fn.watches in
    map (λ w. (goal.Watch-dyn g (w.vtable, w.value)).seen w.value) l.watches ≡ map (with_event l.event) (take l.watch-index old) ++ drop l.watch-index old
