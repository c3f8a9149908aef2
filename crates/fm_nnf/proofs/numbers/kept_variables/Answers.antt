use Rattle.std.proofs.Common.{Vec, Global, ◌++◌, ◌+◌, zero, List, drop, ap, sym, ◌∙◌}
use Rattle.fm_base.specs.declared.formula.Fterm.{Fterm}
use Rattle.fm_nnf.specs.Lifting.{term_variables}
use Rattle.fm_nnf.specs.Marked.{marked}
use Rattle.fm_nnf.specs.Places.{kept}
use Rattle.fm_nnf.proofs.Renumbering.{from, kept_end, kept_false, kept_true, variable_below, variable_read, variables_end}
use Rattle.fm_nnf.proofs.numbers.kept_variables.Goals as goal
use Rattle.fm_nnf.proofs.numbers.kept_variables.Goals.{then-is_marked+in_ok-push, else-is_marked}

pub loop-i-preserved : goal.loop-i-preserved
loop-i-preserved c =
    let p = marked c.args.marks.now in
    let scope = c.args.scope.now in
    let all = term_variables zero scope in
    let i = c.loop-i.i in
    let lt = variable_below scope i c.loop-i-test.true in
    let read = variable_read scope i c.loop-i-test.true in
    let after = λ (ts : List Fterm). ts ++ kept (from p (i + 1)) (drop (i + 1) all) in
    let items = λ (v : Vec Fterm Global). v.items in
    elim c.if-is_marked.branch [
      | then-is_marked+in_ok-push w ↦ ap after (ap items w.terms-is ∙ w.in_ok-push.ensures.items) ∙ kept_true p all i (Fterm.Var i) c.loop-i.terms.items lt read (sym c.is_marked.ensures ∙ w.if-is_marked.true) ∙ c.loop-i.invariant
      | else-is_marked w ↦ ap after (ap items w.terms-is) ∙ kept_false p all i (Fterm.Var i) c.loop-i.terms.items lt read (sym c.is_marked.ensures ∙ w.if-is_marked.false) ∙ c.loop-i.invariant
    ]

pub returns : goal.returns
returns c =
    let p = marked c.args.marks.now in
    let scope = c.args.scope.now in
    c.from_vec.ensures ∙ kept_end p (term_variables zero scope) c.loop-i.i c.loop-i.terms.items (variables_end scope c.loop-i.i c.loop-i-test.false) ∙ c.loop-i.invariant
