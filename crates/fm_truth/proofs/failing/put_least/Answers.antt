use Rattle.std.proofs.Common.{length, take, ◌∙◌}
use Rattle.fm_base.specs.Interpretations.{reading_of}
use Rattle.fm_truth.proofs.Blocks.{least_failing}
use Rattle.fm_truth.proofs.failing.put_least.Goals as goal

pub returns : goal.returns
returns c = least_failing (reading_of c.args.interp.now) c.args.sorts.now c.args.body.now (take (length c.args.sorts.now) c.block_holds.new.vars) (c.block_holds.ensures.least (c.block_holds.ensures.value ∙ c.requires.fails))
