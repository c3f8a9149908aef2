use Rattle.fm_arena.proofs.Growing.{measure_fits, measure_read}
use Rattle.fm_arena.proofs.arena.Arena.measure.Goals as goal

pub returns-clause-value : goal.returns-clause-value
returns-clause-value c = measure_read c.as_slice.result.now c.self.inside.entries.items c.args.self.now c.args.number c.kept.result c.as_slice.ensures.value c.self.view_is c.self.invariant.0 c.kept.ensures

pub returns-clause-fit : goal.returns-clause-fit
returns-clause-fit c = measure_fits c.as_slice.result.now c.self.inside.entries.items c.args.number c.kept.result c.as_slice.ensures.value c.self.invariant.0 c.kept.ensures
