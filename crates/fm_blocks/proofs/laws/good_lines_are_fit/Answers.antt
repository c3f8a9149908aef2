use Rattle.fm_blocks.proofs.FitLines.{good_lines_are_fit}
use Rattle.fm_blocks.proofs.laws.good_lines_are_fit.Goals as goal

pub returns : goal.returns
returns c = good_lines_are_fit
