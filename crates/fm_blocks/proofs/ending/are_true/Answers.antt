use Rattle.fm_base.specs.Interpretations.{reading_of}
use Rattle.fm_blocks.proofs.EndingLaws.{fails_some}
use Rattle.fm_blocks.proofs.ending.are_true.Goals as goal

pub returns-in-Some-clause-no : goal.returns-in-Some-clause-no
returns-in-Some-clause-no c = λ _.
    let w = rw c.in-Some.is at c.in_ok-failing.ensures.some in
    fails_some (reading_of c.args.model.now) c.args.assertions.now _ w.formula w.stands w.fails
