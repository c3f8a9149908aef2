use Rattle.fm_truth.proofs.Fitting.{fit_tables_ascend}
use Rattle.fm_truth.proofs.evaluate.holds.Goals as goal

pub formula_holds-requires-clause-tables : goal.formula_holds-requires-clause-tables
formula_holds-requires-clause-tables c = fit_tables_ascend c.requires.fits.0 c.args.interp.now c.requires.fits.1
