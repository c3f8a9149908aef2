use Rattle.fm_arena.proofs.Using.{use_added, use_fits_by, use_follows_by}
use Rattle.fm_arena.proofs.arena.Arena.apply_form.Goals as goal

pub returns-in_default-clause-fit : goal.returns-in_default-clause-fit
returns-in_default-clause-fit c = use_fits_by c.as_slice-2.result.now c.self.inside.entries.items c.args.self.now c.as_slice-3.result.now c.args.args c.args.body c.args.form _ c.as_slice-2.ensures.value c.as_slice-3.ensures c.self.view_is c.self.invariant c.requires c.in_default.ensures.fit

pub invariant_of-self-2 : goal.invariant_of-self-2
invariant_of-self-2 c =
    c.in_ok-number.ensures.kept c.self.invariant
    (use_follows_by c.as_slice.result.now c.as_slice-2.result.now c.self.inside.entries.items c.args.self.now c.as_slice-3.result.now c.args.args c.args.body c.args.form c.type_of-ty.result c.in-Some.measure c.as_slice.ensures.value c.as_slice-2.ensures.value c.as_slice-3.ensures c.self.view_is c.self.invariant c.requires c.type_of-ty.ensures c.in-Some.ensures.some c.in-Some.ensures.fit)

pub returns-clause-added : goal.returns-clause-added
returns-clause-added c = use_added c.as_slice.result.now c.self.inside.entries.items c.args.self.now c.add.new.entries.items c.args.args c.args.body c.args.form c.type_of-ty.result c.in-Some.measure c.as_slice.ensures.value c.self.view_is c.self.invariant c.type_of-ty.ensures c.in_ok-number.ensures.terms

pub returns-clause-fit : goal.returns-clause-fit
returns-clause-fit c = use_fits_by c.as_slice-2.result.now c.self.inside.entries.items c.args.self.now c.as_slice-3.result.now c.args.args c.args.body c.args.form _ c.as_slice-2.ensures.value c.as_slice-3.ensures c.self.view_is c.self.invariant c.requires c.in-Some.ensures.fit
