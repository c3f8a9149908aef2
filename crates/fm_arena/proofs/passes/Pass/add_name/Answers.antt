use Rattle.std.proofs.Common.{rules}
use Rattle.std.proofs.Common.{refl, length}
use Rattle.fm_arena.specs.Weights.{weighed_of}
use Rattle.fm_arena.specs.Passes.{name_gain}
use Rattle.fm_arena.proofs.Passing.{param_gains, name_past}
use Rattle.fm_arena.proofs.passes.Pass.add_name.Goals as goal

pub returns : goal.returns
returns c =
    let l = c.as_slice.ensures.len in
    param_gains (weighed_of c.args.before.now) (length c.args.before.now) c.args.place c.args.self.now _ c.in_ok-self.field-0 c.index.result.now (name_gain c.args.reads c.args.place c.args.truth) refl refl refl (search rules) c.index.ensures (c.in_ok-self.ensures c.args.place)

pub returns-then-place-as_slice : goal.returns-then-place-as_slice
returns-then-place-as_slice c = name_past (weighed_of c.args.before.now) (length c.args.before.now) c.args.self.now c.add_own.new.self c.args.reads c.args.place c.args.truth c.add_own.result (search rules) c.add_own.ensures
