use Rattle.std.proofs.Common.{length, refl, rules, ◌∙◌}
use Rattle.fm_arena.specs.Weights.{weighed_of}
use Rattle.fm_arena.proofs.Passing.{pairs_result}
use Rattle.fm_arena.proofs.passes.Pass.add_pairs.Goals as goal

pub returns : goal.returns
returns c =
    pairs_result (weighed_of c.args.before.now) (length c.args.before.now) c.args.self.now c.add_own.new.self c.add_parts.new.self c.args.reads c.in_ok-deeper.field-0 _ c.args.parts.now c.as_slice-2.result.now c.add_parts.result c.in_ok-add_own.ensures c.add_parts.ensures c.requires c.in_ok-deeper.ensures
    (c.as_slice-2.ensures.value ∙ c.in_ok-pairs.ensures) (search rules) refl
