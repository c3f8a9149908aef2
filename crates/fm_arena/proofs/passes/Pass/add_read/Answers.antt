use Rattle.std.proofs.Common.{length}
use Rattle.fm_arena.specs.Weights.{weighed_of}
use Rattle.fm_arena.proofs.Passing.{read_named, read_none, read_part, read_wrong}
use Rattle.fm_arena.proofs.passes.Pass.add_read.Goals as goal

pub returns-then-named : goal.returns-then-named
returns-then-named c = read_named (weighed_of c.args.before.now) (length c.args.before.now) c.args.self.now c.add_name.new.self c.args.reads c.args.named c.args.args.now c.args.place c.args.truth c.add_name.result c.if-named.true c.add_name.ensures

pub returns-in-None : goal.returns-in-None
returns-in-None c = read_none (weighed_of c.args.before.now) (length c.args.before.now) c.args.self.now c.add_own.new.self c.args.reads c.args.named c.args.args.now c.args.place c.args.truth c.add_own.result c.if-named.false c.in-None.ensures.lookup.3 c.add_own.ensures

pub returns-then-is_bool-truth : goal.returns-then-is_bool-truth
returns-then-is_bool-truth c =
    read_part c.args.before.now (length c.args.before.now) c.args.self.now c.add_part.new.self c.args.reads c.args.named c.args.args.now c.args.place c.in-Some.arg.now c.args.truth c.is_bool.result c.type_of.result c.add_part.result c.if-named.false c.in-Some.ensures.lookup.3.0 (c.in-Some.ensures.lookup.3.1 0) c.type_of.ensures c.is_bool.ensures c.if-is_bool-truth.true c.add_part.ensures

pub returns-else-is_bool-truth : goal.returns-else-is_bool-truth
returns-else-is_bool-truth c =
    read_wrong c.args.before.now (length c.args.before.now) c.args.self.now c.add_own-else-is_bool-truth.new.self c.args.reads c.args.named c.args.args.now c.args.place c.in-Some.arg.now c.args.truth c.is_bool.result c.type_of.result c.add_own-else-is_bool-truth.result c.if-named.false c.in-Some.ensures.lookup.3.0 (c.in-Some.ensures.lookup.3.1 0) c.type_of.ensures c.is_bool.ensures c.if-is_bool-truth.false c.add_own-else-is_bool-truth.ensures
