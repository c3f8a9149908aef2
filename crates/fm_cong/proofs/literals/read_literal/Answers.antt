use Rattle.fm_cong.proofs.literals.read_literal.Goals as goal

pub returns-in-None-clause-steady : goal.returns-in-None-clause-steady
returns-in-None-clause-steady c = c.note.ensures.steady c.args.members.now c.requires.steady
