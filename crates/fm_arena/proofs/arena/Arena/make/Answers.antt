use Rattle.fm_arena.proofs.Weighing.{made_follows}
use Rattle.fm_arena.proofs.Growing.{fit_of}
use Rattle.fm_arena.proofs.Lending.{made_fits_by, made_measured_by}
use Rattle.fm_arena.proofs.arena.Arena.make.Goals as goal

pub returns-in_default-clause-fit : goal.returns-in_default-clause-fit
returns-in_default-clause-fit c = made_fits_by c.as_slice.result.now c.self.inside.entries.items c.args.self.now c.as_slice-2.result.now c.args.parts c.args.op _ c.as_slice.ensures.value c.as_slice-2.ensures c.self.view_is c.self.invariant.0 c.requires.kinds c.in_default.ensures.fit

pub invariant_of-self-2 : goal.invariant_of-self-2
invariant_of-self-2 c =
    c.in_ok-number.ensures.kept c.self.invariant
    (made_measured_by c.as_slice.result.now c.self.inside.entries.items c.args.self.now c.as_slice-2.result.now c.args.parts c.args.op c.args.ty c.in-Some.measure c.as_slice.ensures.value c.as_slice-2.ensures c.self.view_is c.self.invariant.0 c.requires.kinds c.requires.result c.in-Some.ensures.some (fit_of c.in-Some.ensures.some c.in-Some.ensures.fit), made_follows c.self.inside.entries.items c.args.self.now c.args.op c.args.parts c.args.ty c.in-Some.measure c.self.view_is c.self.invariant c.requires.kinds)

pub returns-clause-fit : goal.returns-clause-fit
returns-clause-fit c = made_fits_by c.as_slice.result.now c.self.inside.entries.items c.args.self.now c.as_slice-2.result.now c.args.parts c.args.op _ c.as_slice.ensures.value c.as_slice-2.ensures c.self.view_is c.self.invariant.0 c.requires.kinds c.in-Some.ensures.fit
