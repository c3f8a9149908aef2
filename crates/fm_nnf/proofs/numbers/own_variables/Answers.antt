use Rattle.std.proofs.Common.{◌++◌, ◌+◌, List, drop, ap, ◌∙◌}
use Rattle.fm_base.specs.declared.formula.Fterm.{Fterm}
use Rattle.fm_nnf.specs.Lifting.{term_variables}
use Rattle.fm_nnf.proofs.Renumbering.{own_step}
use Rattle.fm_nnf.proofs.numbers.own_variables.Goals as goal

pub loop-i-preserved : goal.loop-i-preserved
loop-i-preserved c = ap (λ (ts : List Fterm). ts ++ term_variables (c.loop-i.i + 1) (drop (c.loop-i.i + 1) c.args.vars.now)) c.in_ok-push.ensures.items ∙ own_step c.args.vars.now c.loop-i.i c.loop-i.terms.items c.loop-i-test.true ∙ c.loop-i.invariant
