use Rattle.fm_cong.specs.Graphs.{cells_of}
use Rattle.fm_cong.proofs.Noticing.{steady_noted}
use Rattle.fm_cong.proofs.literals.note.Goals as goal

pub returns-clause-steady : goal.returns-clause-steady
returns-clause-steady c = λ shapes h. steady_noted shapes (cells_of c.args.state.now) c.push.new.self.items c.args.fact c.in_ok-push.ensures.items c.requires.joins h
