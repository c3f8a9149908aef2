use Rattle.std.proofs.Common.{◌∙◌}
use Rattle.fm_state.proofs.Open.{lemma_found}
use Rattle.fm_state.proofs.standing.State.open_literal.Goals as goal

pub returns : goal.returns
returns c = λ l u. c.first_unvalued.ensures ∙ lemma_found c.args.self.now c.args.lits.now l u
