use Rattle.std.proofs.Common.{length, rules}
use Rattle.fm_arena.specs.Weights.{weighed_of}
use Rattle.fm_arena.proofs.Passing.{params_end, params_start, params_step}
use Rattle.fm_arena.proofs.passes.Pass.add_form.Goals as goal

pub loop-place-init : goal.loop-place-init
loop-place-init c = λ p g.
    params_start (weighed_of c.args.before.now) (length c.args.before.now) c.args.self.now c.add_own.new.self p c.args.reads c.args.named c.args.args.now c.args.form.now c.as_slice-params.result.now c.as_slice-params.ensures c.requires c.in_ok-add_own.ensures g

pub loop-place-preserved : goal.loop-place-preserved
loop-place-preserved c = λ p g.
    c.loop-place.invariant p (params_step (weighed_of c.args.before.now) (length c.args.before.now) c.loop-place.self c.add_param.new.self p c.args.reads c.args.named c.args.args.now c.as_slice-params.result.now c.loop-place.place _ c.loop-place-test.true (search rules) c.in_ok-add_param.ensures g)

pub returns : goal.returns
returns c = c.loop-place.invariant c.loop-place.self (params_end (weighed_of c.args.before.now) (length c.args.before.now) c.loop-place.self c.args.reads c.args.named c.args.args.now c.as_slice-params.result.now c.loop-place.place c.loop-place-test.false)
