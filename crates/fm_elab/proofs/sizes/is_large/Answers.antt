use Rattle.std.proofs.Common.{◌∙◌}
use Rattle.fm_base.specs.declared.signature.Sig.{Sig}
use Rattle.fm_elab.proofs.Alike.{large_definitions, large_formula}
use Rattle.fm_elab.proofs.sizes.is_large.Goals as goal

pub returns-then-branch : goal.returns-then-branch
returns-then-branch c =
    let none : Sig = record { sorts = 0; ranks = c.new.result } in
    λ sig e. large_formula sig none c.args.formula.now c.in_ok-lifted.lifted.formula c.args.declared c.in_ok-is_large_form.field-0 e c.in_ok-lifted.ensures.formula c.in_ok-is_large_form.ensures c.if-branch.true

pub returns : goal.returns
returns c =
    let none : Sig = record { sorts = 0; ranks = c.new.result } in
    λ sig e. large_definitions sig none c.args.formula.now c.in_ok-lifted.lifted.formula c.as_slice.result.now c.args.declared c.in_ok-is_large_form.field-0 c.has_large_form.result e c.in_ok-lifted.ensures.formula (c.as_slice.ensures ∙ c.in_ok-lifted.ensures.definitions) c.in_ok-is_large_form.ensures c.if-branch.false c.has_large_form.ensures
