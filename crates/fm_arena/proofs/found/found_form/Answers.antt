use Rattle.std.proofs.Common.{◌≡◌, subst, arith}
use Rattle.std.specs.Prelude.{Option, IfSome, length}
use Rattle.fm_arena.specs.Weights.{form_weight, inside_weights, weighed_of, weighing_of}
use Rattle.fm_arena.specs.declared.forms.Form.{Form}
use Rattle.fm_arena.proofs.Finding.{form_at, formed_at}
use Rattle.fm_arena.proofs.found.found_form.Goals as goal

pub node_form-requires : goal.node_form-requires
node_form-requires c = formed_at c.args.entries.now c.split_at.result.0.now c.split_at.result.1.now c.in-Some.field-0-1.now c.args.number c.in-Some.entry.now c.split_at.ensures.front c.split_at.ensures.back c.in-Some.ensures.cases.0 c.requires

pub returns-in-Some-2-clause-form : goal.returns-in-Some-2-clause-form
returns-in-Some-2-clause-form c =
    form_at c.args.entries.now c.split_at.result.0.now c.split_at.result.1.now c.in-Some.field-0-1.now c.args.number c.in-Some.entry.now c.in-Some-2.form (omega (arith, c.if-number-entries.false)) c.split_at.ensures.front c.split_at.ensures.back c.in-Some.ensures.cases.0
    (λ w. subst (λ (o : Option Form). IfSome o (λ (f : Form). weighing_of (weighed_of c.split_at.result.0.now) c.in-Some.entry.now.node (inside_weights (length f.params) w) ≡ form_weight f w)) c.in-Some-2.is (c.in_ok-node_form.ensures.form w))
