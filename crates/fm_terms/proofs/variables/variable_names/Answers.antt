use Rattle.std.proofs.Common.{arith, get_or, length, ◌<◌}
use Rattle.std.proofs.lemmas.List.{drop_more}
use Rattle.fm_base.specs.declared.ids.SortId.{SortId}
use Rattle.fm_base.specs.declared.signature.Ty.{Ty}
use Rattle.fm_arena.specs.Meanings.{name_made}
use Rattle.fm_apply.proofs.Growing.{grows_added, grows_trans}
use Rattle.fm_terms.proofs.Stepping.{names_below, variable_step}
use Rattle.fm_terms.proofs.variables.variable_names.Goals as goal

pub loop-sort-preserved : goal.loop-sort-preserved
loop-sort-preserved c =
    let lt : c.loop-sort.sort-index < length c.args.sorts.now = omega (arith, c.loop-sort-test.true) in
    let d : SortId = record { 0 = 0 } in
    let mid = c.loop-sort.arena in
    let new = c.name.new.self in
    let pushed = c.in_ok-push-in-Ok.ensures.items in
    record {
      terms = variable_step mid new c.loop-sort.numbers.items c.push.new.self.items c.in-Ok.number c.loop-sort.place c.in-Some.next c.loop-sort.sort-index (get_or c.args.sorts.now c.loop-sort.sort-index d) c.args.sorts.now _ c.in-Ok.ensures.added c.in-Ok.ensures.number c.loop-sort.invariant.below pushed c.in-Some.ensures.1 (drop_more c.args.sorts.now c.loop-sort.sort-index d lt) c.loop-sort.invariant.terms;
      grows = grows_trans c.args.arena.now mid new c.loop-sort.invariant.grows (grows_added mid new (name_made c.loop-sort.place (Ty.Of (get_or c.args.sorts.now c.loop-sort.sort-index d))) c.in-Ok.ensures.added);
      below = names_below mid new (name_made c.loop-sort.place (Ty.Of (get_or c.args.sorts.now c.loop-sort.sort-index d))) c.loop-sort.numbers.items c.push.new.self.items c.in-Ok.number c.in-Ok.ensures.added c.in-Ok.ensures.number c.loop-sort.invariant.below pushed;
    }
