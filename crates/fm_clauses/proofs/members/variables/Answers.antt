use Rattle.std.proofs.Common.{◌++◌, List, drop, ◌+◌, ap, ◌∙◌}
use Rattle.fm_base.specs.declared.formula.Pterm.{Pterm}
use Rattle.fm_nnf.specs.NormalForm.{all_variables}
use Rattle.fm_clauses.proofs.Walks.{variables_step}
use Rattle.fm_clauses.proofs.members.variables.Goals as goal

pub loop-i-preserved : goal.loop-i-preserved
loop-i-preserved c = ap (λ (ts : List Pterm). ts ++ all_variables (c.loop-i.i + 1) (drop (c.loop-i.i + 1) c.args.scope.now)) c.in_ok-push.ensures.items ∙ variables_step c.args.scope.now c.loop-i.i c.loop-i.made.items c.loop-i-test.true ∙ c.loop-i.invariant
