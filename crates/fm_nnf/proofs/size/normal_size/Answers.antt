use Rattle.std.proofs.Common.{ℕ, min, ap, sym, ◌∙◌}
use Rattle.fm_nnf.proofs.Counts.{counts}
use Rattle.fm_nnf.proofs.size.normal_size.Goals as goal

pub returns : goal.returns
returns c = c.count_closed.ensures ∙ ap (λ (n : ℕ). min n 1000001) (sym (counts c.args.formula.now 0))
