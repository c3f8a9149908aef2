use Rattle.std.proofs.Common.{arith, get_or, length, ◌<◌}
use Rattle.std.proofs.lemmas.List.{drop_more}
use Rattle.fm_base.specs.declared.signature.Ty.{Ty}
use Rattle.fm_arena.specs.Meanings.{name_made}
use Rattle.fm_apply.proofs.Growing.{grows_added, grows_trans}
use Rattle.fm_terms.proofs.Stepping.{names_below, parameter_step}
use Rattle.fm_terms.proofs.variables.parameter_names.Goals as goal

pub loop-place-preserved : goal.loop-place-preserved
loop-place-preserved c =
    let lt : c.loop-place.place < length c.args.types.now = omega (arith, c.loop-place-test.true) in
    let mid = c.loop-place.arena in
    let new = c.name.new.self in
    let pushed = c.in_ok-push-in-Ok.ensures.items in
    record {
      terms = parameter_step mid new c.loop-place.numbers.items c.push.new.self.items c.in-Ok.number c.loop-place.place (get_or c.args.types.now c.loop-place.place Ty.Bool) c.args.types.now _ c.in-Ok.ensures.added c.in-Ok.ensures.number c.loop-place.invariant.below pushed (drop_more c.args.types.now c.loop-place.place Ty.Bool lt) c.loop-place.invariant.terms;
      grows = grows_trans c.args.arena.now mid new c.loop-place.invariant.grows (grows_added mid new (name_made c.loop-place.place (get_or c.args.types.now c.loop-place.place Ty.Bool)) c.in-Ok.ensures.added);
      below = names_below mid new (name_made c.loop-place.place (get_or c.args.types.now c.loop-place.place Ty.Bool)) c.loop-place.numbers.items c.push.new.self.items c.in-Ok.number c.in-Ok.ensures.added c.in-Ok.ensures.number c.loop-place.invariant.below pushed;
    }
