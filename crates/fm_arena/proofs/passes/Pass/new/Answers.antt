use Rattle.std.proofs.Common.{rules}
use Rattle.fm_arena.proofs.Reaching.{new_pass}
use Rattle.fm_arena.proofs.passes.Pass.new.Goals as goal

pub returns-clause-weight : goal.returns-clause-weight
returns-clause-weight c = λ fs n w. new_pass fs n c.resize.new.self.items c.new.result.items c.args.params w (search rules) c.new.ensures.items
