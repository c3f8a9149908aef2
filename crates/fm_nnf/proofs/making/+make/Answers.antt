use Rattle.std.proofs.Common.{true, false, not, ◌++◌, ◌∷◌, [], List, ap, sym, ◌∙◌, arith, append_assoc}
use Rattle.std.proofs.lemmas.List.{append-nil}
use Rattle.fm_base.specs.declared.formula.Nnf
use Rattle.fm_base.specs.declared.formula.Nnf.{Nnf}
use Rattle.fm_nnf.specs.Bindings.{terms_of}
use Rattle.fm_nnf.specs.NormalForm.{formed_or, normal_form}
use Rattle.fm_nnf.proofs.Adding.{all_more, all_none, makes_both, makes_some}
use Rattle.fm_nnf.proofs.Weights.{formula_weight, item-weight}
use Rattle.fm_nnf.proofs.making.+make.Goals as goal

pub make_all-make-requires : goal.make_all-make-requires
make_all-make-requires t c =
    let w = item-weight formula_weight c.args.formulas.now c.loop-formula.formula-index c.formula-item.result c.loop-formula-test.true c.formula-item.is in
    (omega (arith, c.decreases, w), c.requires)

pub make_all-loop-formula-preserved : goal.make_all-loop-formula-preserved
make_all-loop-formula-preserved t c = λ last rest more.
    let x = c.in_ok-make.field-0 in
    let h = c.loop-formula.invariant last (x ∷ rest) (all_more c.args.formulas.now c.loop-formula.formula-index c.formula-item.result c.loop-formula-test.true c.formula-item.is c.args.positive c.args.bindings.now c.args.scope.now c.args.first c.loop-formula.ranks.items c.make.new.ranks.items last x rest c.in_ok-make.ensures more) in
    (ap (λ (ts : List Nnf). ts ++ rest) c.in_ok-push.ensures.items ∙ append_assoc c.loop-formula.made.items (x ∷ []) rest ∙ h.0, h.1)

pub make_all-returns : goal.make_all-returns
make_all-returns t c =
    let h = c.loop-formula.invariant c.loop-formula.ranks.items [] (all_none c.args.formulas.now c.loop-formula.formula-index c.loop-formula-test.false c.args.positive c.args.bindings.now c.args.scope.now c.args.first c.loop-formula.ranks.items) in
    (c.from_vec.ensures ∙ sym (append-nil c.loop-formula.made.items) ∙ h.0, h.1)

pub make_some-returns : goal.make_some-returns
make_some-returns t c = makes_some (normal_form c.args.body.now c.args.positive) c.args.vars.now c.args.bindings.now c.as_slice.result.now c.args.scope.now c.args.first c.args.ranks.now.items c.with_symbols.new.ranks.items c.make.new.ranks.items c.in_ok-tree.tree (ap terms_of c.as_slice.ensures.value ∙ c.in_ok-inner.ensures.terms) c.in_ok-inner.ensures.ranks c.in_ok-tree.ensures

pub make_iff-returns : goal.make_iff-returns
make_iff-returns t c =
    let a = normal_form c.args.a.now in
    let b = normal_form c.args.b.now in
    let positive = c.args.positive in
    let h = makes_both (formed_or (a (not positive) ∷ b true ∷ [])) (formed_or (a positive ∷ b false ∷ [])) c.args.bindings.now c.args.scope.now c.args.first c.args.ranks.now.items c.make_or.new.ranks.items c.make_or-2.new.ranks.items c.in_ok-one.one c.in_ok-two.two c.in_ok-one.ensures c.in_ok-two.ensures in
    (ap (λ ts. Nnf.And ts) (c.in_ok-pair.ensures ∙ h.0), h.1)

pub make_ite-returns : goal.make_ite-returns
make_ite-returns t c =
    let test = normal_form c.args.c.now in
    let a = normal_form c.args.a.now in
    let b = normal_form c.args.b.now in
    let positive = c.args.positive in
    let h = makes_both (formed_or (test false ∷ a positive ∷ [])) (formed_or (test true ∷ b positive ∷ [])) c.args.bindings.now c.args.scope.now c.args.first c.args.ranks.now.items c.make_or.new.ranks.items c.make_or-2.new.ranks.items c.in_ok-one.one c.in_ok-two.two c.in_ok-one.ensures c.in_ok-two.ensures in
    (ap (λ ts. Nnf.And ts) (c.in_ok-pair.ensures ∙ h.0), h.1)
