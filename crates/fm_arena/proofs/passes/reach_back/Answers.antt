use Rattle.std.proofs.Common.{rules}
use Rattle.std.proofs.Common.{◌∙◌}
use Rattle.fm_arena.proofs.Reaching.{marks_pushed, pushed_few}
use Rattle.fm_arena.proofs.passes.reach_back.Goals as goal

pub loop-marks-preserved : goal.loop-marks-preserved
loop-marks-preserved c = record {
  few = λ n le lt. pushed_few c.loop-marks.marks.items c.push_back.new.self.items 0 c.args.back n c.in_ok-push_back.ensures.items (search rules) lt;
  weight = λ fs n w. marks_pushed fs n c.loop-marks.marks.items c.push_back.new.self.items 0 w c.in_ok-push_back.ensures.items ∙ c.loop-marks.invariant.weight fs n w;
}
