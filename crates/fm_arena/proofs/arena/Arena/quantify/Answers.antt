use Rattle.fm_arena.proofs.Weighing.{block_follows}
use Rattle.fm_arena.proofs.Growing.{fit_of}
use Rattle.fm_arena.proofs.Lending.{quantified_fits_by, quantified_measured_by}
use Rattle.fm_arena.proofs.arena.Arena.quantify.Goals as goal

pub returns-in_default-clause-fit : goal.returns-in_default-clause-fit
returns-in_default-clause-fit c = quantified_fits_by c.as_slice.result.now c.self.inside.entries.items c.args.self.now c.args.all c.args.vars c.args.base c.args.body _ c.as_slice.ensures.value c.self.view_is c.self.invariant.0 c.requires.kind c.in_default.ensures.fit

pub invariant_of-self-2 : goal.invariant_of-self-2
invariant_of-self-2 c =
    c.in_ok-number.ensures.kept c.self.invariant
    (quantified_measured_by c.as_slice.result.now c.self.inside.entries.items c.args.self.now c.args.all c.args.vars c.args.base c.args.body c.in-Some.measure c.as_slice.ensures.value c.self.view_is c.self.invariant.0 c.requires.kind c.in-Some.ensures.some (fit_of c.in-Some.ensures.some c.in-Some.ensures.fit), block_follows c.self.inside.entries.items c.args.self.now c.args.all c.args.vars c.args.base c.args.body c.in-Some.measure c.self.view_is c.self.invariant c.requires.kind)

pub returns-clause-fit : goal.returns-clause-fit
returns-clause-fit c = quantified_fits_by c.as_slice.result.now c.self.inside.entries.items c.args.self.now c.args.all c.args.vars c.args.base c.args.body _ c.as_slice.ensures.value c.self.view_is c.self.invariant.0 c.requires.kind c.in-Some.ensures.fit
