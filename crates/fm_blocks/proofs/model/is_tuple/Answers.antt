use Rattle.std.proofs.Common.{sym}
use Rattle.fm_base.specs.Interpretations.{reading_of}
use Rattle.fm_truth.proofs.Lengths.{is_tuple-other_length}
use Rattle.fm_blocks.proofs.model.is_tuple.Goals as goal

pub returns-then-types-tuple : goal.returns-then-types-tuple
returns-then-types-tuple c = sym (is_tuple-other_length (reading_of c.args.model.now) c.args.types.now c.args.tuple.now c.if-types-tuple.true)
