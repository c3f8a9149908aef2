use Rattle.fm_closure.proofs.passes.key_of.Goals as goal

pub classes_of-requires-clause-there : goal.classes_of-requires-clause-there
classes_of-requires-clause-there c = c.requires.args _ c.term.ensures
