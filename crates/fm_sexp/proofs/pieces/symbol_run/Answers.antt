use Rattle.std.proofs.Common.{◌∙◌}
use Rattle.fm_sexp.proofs.Runs.{take_run}
use Rattle.fm_sexp.proofs.pieces.symbol_run.Goals as goal

pub returns-clause-run : goal.returns-clause-run
returns-clause-run c = c.split_at.ensures.front ∙ take_run _ _ _ c.symbol_len.ensures.value
