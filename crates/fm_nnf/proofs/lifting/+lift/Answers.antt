use Rattle.std.proofs.Common.{◌++◌, ◌∷◌, [], List, ap, sym, subst, ◌∙◌, arith, append_assoc}
use Rattle.std.proofs.lemmas.List.{append-nil}
use Rattle.fm_base.specs.declared.signature.Ty.{Ty}
use Rattle.fm_base.specs.declared.formula.Formula
use Rattle.fm_base.specs.declared.formula.Formula.{Formula}
use Rattle.fm_base.specs.declared.formula.Fterm.{Fterm}
use Rattle.fm_nnf.specs.Lifting.{Parts, both, choice_of, lift_formula, lift_term}
use Rattle.fm_nnf.specs.Made.{Lifts}
use Rattle.fm_nnf.proofs.Lifters.{formulas_more, formulas_none, lifts_both, lifts_choose, terms_more, terms_none}
use Rattle.fm_nnf.proofs.Weights.{formula_weight, item-weight, term_weight}
use Rattle.fm_nnf.proofs.lifting.+lift.Goals as goal

pub lift_formulas-lift_formula-requires : goal.lift_formulas-lift_formula-requires
lift_formulas-lift_formula-requires t c =
    let w = item-weight formula_weight c.args.formulas.now c.loop-formula.formula-index c.formula-item.result c.loop-formula-test.true c.formula-item.is in
    (omega (arith, c.decreases, w), c.requires)

pub lift_formulas-loop-formula-preserved : goal.lift_formulas-loop-formula-preserved
lift_formulas-loop-formula-preserved t c = λ last rest more.
    let x = c.in_ok-lift_formula.field-0 in
    let h = c.loop-formula.invariant last (x ∷ rest) (formulas_more c.args.sig.now c.args.formulas.now c.loop-formula.formula-index c.formula-item.result c.loop-formula-test.true c.formula-item.is c.args.scope.now c.args.first c.loop-formula.made c.lift_formula.new.made last x rest c.in_ok-lift_formula.ensures more) in
    (ap (λ (ts : List Formula). ts ++ rest) c.in_ok-push.ensures.items ∙ append_assoc c.loop-formula.list.items (x ∷ []) rest ∙ h.0, h.1, h.2)

pub lift_formulas-returns : goal.lift_formulas-returns
lift_formulas-returns t c =
    let h = c.loop-formula.invariant c.loop-formula.made [] (formulas_none c.args.sig.now c.args.formulas.now c.loop-formula.formula-index c.loop-formula-test.false c.args.scope.now c.args.first c.loop-formula.made) in
    (c.from_vec.ensures ∙ sym (append-nil c.loop-formula.list.items) ∙ h.0, h.1, h.2)

pub lift_terms-lift_term-requires : goal.lift_terms-lift_term-requires
lift_terms-lift_term-requires t c =
    let w = item-weight term_weight c.args.terms.now c.loop-term.term-index c.term-item.result c.loop-term-test.true c.term-item.is in
    (omega (arith, c.decreases, w), c.requires)

pub lift_terms-loop-term-preserved : goal.lift_terms-loop-term-preserved
lift_terms-loop-term-preserved t c = λ last rest more.
    let x = c.in_ok-lift_term.field-0 in
    let h = c.loop-term.invariant last (x ∷ rest) (terms_more c.args.sig.now c.args.terms.now c.loop-term.term-index c.term-item.result c.loop-term-test.true c.term-item.is c.args.scope.now c.args.first c.loop-term.made c.lift_term.new.made last x rest c.in_ok-lift_term.ensures more) in
    (ap (λ (ts : List Fterm). ts ++ rest) c.in_ok-push.ensures.items ∙ append_assoc c.loop-term.list.items (x ∷ []) rest ∙ h.0, h.1, h.2)

pub lift_terms-returns : goal.lift_terms-returns
lift_terms-returns t c =
    let h = c.loop-term.invariant c.loop-term.made [] (terms_none c.args.sig.now c.args.terms.now c.loop-term.term-index c.loop-term-test.false c.args.scope.now c.args.first c.loop-term.made) in
    (c.from_vec.ensures ∙ sym (append-nil c.loop-term.list.items) ∙ h.0, h.1, h.2)

pub lift_equal-returns : goal.lift_equal-returns
lift_equal-returns t c =
    let sig = c.args.sig.now in
    let h = lifts_both (lift_term sig c.args.left.now).lift (lift_term sig c.args.right.now).lift c.args.scope.now c.args.first c.args.made.now c.lift_term.new.made c.lift_term-2.new.made c.in_ok-one.one c.in_ok-two.two c.in_ok-one.ensures c.in_ok-two.ensures in
    (ap (λ p. Formula.Equal p.0 p.1) h.0, h.1, h.2)

pub lift_iff-returns : goal.lift_iff-returns
lift_iff-returns t c =
    let sig = c.args.sig.now in
    let h = lifts_both (lift_formula sig c.args.left.now) (lift_formula sig c.args.right.now) c.args.scope.now c.args.first c.args.made.now c.lift_formula.new.made c.lift_formula-2.new.made c.in_ok-one.one c.in_ok-two.two c.in_ok-one.ensures c.in_ok-two.ensures in
    let l = c.in_ok-left_box.ensures in
    let r = c.in_ok-right_box.ensures in
    ((λ i. Formula.Iff (l i) (r i)) ∙ ap (λ p. Formula.Iff p.0 p.1) h.0, h.1, h.2)

pub lift_ite-returns : goal.lift_ite-returns
lift_ite-returns t c =
    let sig = c.args.sig.now in
    let test = lift_formula sig c.args.test.now in
    let left = lift_formula sig c.args.left.now in
    let right = lift_formula sig c.args.right.now in
    let later = lifts_both left right c.args.scope.now c.args.first c.lift_formula.new.made c.lift_formula-2.new.made c.lift_formula-3.new.made c.in_ok-two.two c.in_ok-three.three c.in_ok-two.ensures c.in_ok-three.ensures in
    let h = lifts_both test (both left right) c.args.scope.now c.args.first c.args.made.now c.lift_formula.new.made c.lift_formula-3.new.made c.in_ok-one.one (c.in_ok-two.two, c.in_ok-three.three) c.in_ok-one.ensures later in
    let x = c.in_ok-test_box.ensures in
    let l = c.in_ok-left_box.ensures in
    let r = c.in_ok-right_box.ensures in
    ((λ i. Formula.Ite (x i) (l i) (r i)) ∙ ap (λ p. Formula.Ite p.0 p.1.0 p.1.1) h.0, h.1, h.2)

pub choose-returns : goal.choose-returns
choose-returns t c =
    let sig = c.args.sig.now in
    let scope = c.args.scope.now in
    let test = lift_formula sig c.args.test.now in
    let left = lift_term sig c.args.left.now in
    let right = lift_term sig c.args.right.now in
    let parts : Parts = (c.in_ok-one.one, (c.in_ok-two.two, c.in_ok-three.three)) in
    let later = lifts_both left.lift right.lift scope c.args.first c.lift_formula.new.made c.lift_term.new.made c.lift_term-2.new.made c.in_ok-two.two c.in_ok-three.three c.in_ok-two.ensures c.in_ok-three.ensures in
    let h = lifts_both test (both left.lift right.lift) scope c.args.first c.args.made.now c.lift_formula.new.made c.lift_term-2.new.made c.in_ok-one.one (c.in_ok-two.two, c.in_ok-three.three) c.in_ok-one.ensures later in
    lifts_choose (both test (both left.lift right.lift)) left.type scope c.args.first c.args.made.now c.lift_term-2.new.made c.define.new.made parts c.in_ok-define.field-0 h (subst (λ (ty : Ty). Lifts (choice_of parts ty) scope c.args.first c.lift_term-2.new.made c.define.new.made c.in_ok-define.field-0) c.type_of-ty.ensures c.in_ok-define.ensures)
