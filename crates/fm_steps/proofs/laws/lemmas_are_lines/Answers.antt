use Rattle.fm_steps.proofs.Due.{lemmas_are_lines}
use Rattle.fm_steps.proofs.laws.lemmas_are_lines.Goals as goal

pub returns : goal.returns
returns c = lemmas_are_lines
