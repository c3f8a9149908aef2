use Rattle.std.proofs.Common.{◌<◌, length, get_or, arith}
use Rattle.fm_build.proofs.Marked.{mark_more, marks_none}
use Rattle.fm_build.proofs.Marking.{below_at}
use Rattle.fm_build.proofs.marks.mark.Goals as goal

pub loop-term-init : goal.loop-term-init
loop-term-init c = marks_none c.args.marks.now

pub bounds-marks-term : goal.bounds-marks-term
bounds-marks-term c = omega (arith, below_at c.args.terms.now (length c.args.marks.now) c.loop-term.term-index c.requires c.loop-term-test.true, c.loop-term.invariant.room)

pub loop-term-preserved : goal.loop-term-preserved
loop-term-preserved c =
    let terms = c.args.terms.now in
    let i = c.loop-term.term-index in
    let less : get_or terms i 0 < length c.loop-term.marks = omega (arith, below_at terms (length c.args.marks.now) i c.requires c.loop-term-test.true, c.loop-term.invariant.room) in
    mark_more c.args.marks.now c.loop-term.marks terms i c.loop-term.invariant c.loop-term-test.true less
