use Rattle.std.proofs.Common.{◌++◌, ◌+◌, List, length, drop, ap, ◌∙◌}
use Rattle.fm_nnf.specs.declared.making.Binding.{Binding}
use Rattle.fm_nnf.specs.Bindings.{terms_of}
use Rattle.fm_nnf.specs.NormalForm.{all_variables}
use Rattle.fm_nnf.proofs.Adding.{variable_step}
use Rattle.fm_nnf.proofs.making.with_variables.Goals as goal

pub loop-i-preserved : goal.loop-i-preserved
loop-i-preserved c =
    let k = length c.args.scope.now in
    let i = c.loop-i.i in
    let vars = c.args.vars.now in
    ap (λ (bs : List Binding). terms_of bs ++ all_variables (k + (i + 1)) (drop (i + 1) vars)) c.in_ok-push.ensures.items ∙ variable_step c.loop-i.all.items k i vars c.loop-i-test.true ∙ c.loop-i.invariant
