use Rattle.fm_truth.proofs.Fitting.{fit_tables_ascend}
use Rattle.fm_truth.proofs.evaluate.value.Goals as goal

pub term_value-requires-clause-tables : goal.term_value-requires-clause-tables
term_value-requires-clause-tables c = fit_tables_ascend c.requires.fits.0 c.args.interp.now c.requires.fits.1
