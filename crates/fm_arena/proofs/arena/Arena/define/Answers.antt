use Rattle.fm_arena.proofs.Finding.{definition_added, definition_may_follow}
use Rattle.fm_arena.proofs.arena.Arena.define.Goals as goal

pub invariant_of-self-2 : goal.invariant_of-self-2
invariant_of-self-2 c =
    c.in_ok-number.ensures.kept c.self.invariant
    (definition_may_follow c.as_slice.result.now c.as_slice-2.result.now c.as_slice-3.result.now c.self.inside.entries.items c.args.body c.in_ok-form.form c.type_of-ty.result c.kept-measure.result c.as_slice.ensures.value c.as_slice-2.ensures.value c.as_slice-3.ensures.value c.self.invariant c.in_ok-form.ensures.form c.type_of-ty.ensures c.kept-measure.ensures)

pub returns-clause-added : goal.returns-clause-added
returns-clause-added c = definition_added c.as_slice-2.result.now c.self.inside.entries.items c.args.self.now c.add.new.entries.items c.args.body c.in_ok-form.form c.type_of-ty.result c.kept-measure.result c.as_slice-2.ensures.value c.self.view_is c.self.invariant c.type_of-ty.ensures c.in_ok-number.ensures.terms
