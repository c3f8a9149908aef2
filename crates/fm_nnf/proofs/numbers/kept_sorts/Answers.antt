use Rattle.std.proofs.Common.{Vec, Global, ◌++◌, ◌+◌, List, drop, get_or, ap, sym, ◌∙◌}
use Rattle.fm_base.specs.declared.ids.SortId.{SortId}
use Rattle.fm_nnf.specs.Marked.{marked}
use Rattle.fm_nnf.specs.Places.{kept}
use Rattle.fm_nnf.proofs.Renumbering.{from, kept_false, kept_true, read_again}
use Rattle.fm_nnf.proofs.numbers.kept_sorts.Goals as goal
use Rattle.fm_nnf.proofs.numbers.kept_sorts.Goals.{then-is_marked+in_ok-push, else-is_marked}

pub loop-i-preserved : goal.loop-i-preserved
loop-i-preserved c =
    let p = marked c.args.marks.now in
    let scope = c.args.scope.now in
    let i = c.loop-i.i in
    let s : SortId = record { 0 = 0 } in
    let after = λ (ss : List SortId). ss ++ kept (from p (i + 1)) (drop (i + 1) scope) in
    let items = λ (v : Vec SortId Global). v.items in
    elim c.if-is_marked.branch [
      | then-is_marked+in_ok-push w ↦ ap after (ap items w.sorts-is ∙ w.in_ok-push.ensures.items) ∙ kept_true p scope i (get_or scope i s) c.loop-i.sorts.items c.loop-i-test.true (read_again scope i s c.loop-i-test.true) (sym c.is_marked.ensures ∙ w.if-is_marked.true) ∙ c.loop-i.invariant
      | else-is_marked w ↦ ap after (ap items w.sorts-is) ∙ kept_false p scope i (get_or scope i s) c.loop-i.sorts.items c.loop-i-test.true (read_again scope i s c.loop-i-test.true) (sym c.is_marked.ensures ∙ w.if-is_marked.false) ∙ c.loop-i.invariant
    ]
