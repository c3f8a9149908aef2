use Rattle.std.proofs.Common.{◌++◌, ◌∷◌, [], List, ap, ◌∙◌}
use Rattle.fm_base.specs.declared.formula.Pterm.{Pterm}
use Rattle.fm_nnf.proofs.Adding.{first_none, first_more}
use Rattle.fm_nnf.proofs.making.first_variables.Goals as goal

pub loop-i-init : goal.loop-i-init
loop-i-init c = c.new-made.ensures.items ∙ first_none

pub loop-i-preserved : goal.loop-i-preserved
loop-i-preserved c = c.in_ok-push.ensures.items ∙ ap (λ (ts : List Pterm). ts ++ Pterm.Var c.loop-i.i ∷ []) c.loop-i.invariant ∙ first_more c.loop-i.i
