use Rattle.std.proofs.Common.{◌≡◌, ◌<◌, length, ap, sym, ◌∙◌, arith}
use Rattle.fm_build.specs.Marks.{class_at, is_new_by}
use Rattle.fm_build.proofs.Marking.{Turned, below_at, test_is, turned_new, turned_old}
use Rattle.fm_build.proofs.marks.add_representatives.Goals as goal
use Rattle.fm_build.proofs.marks.add_representatives.Goals.{then-is_new+in_ok-push, else-is_new}

pub is_new-requires-clause-taken : goal.is_new-requires-clause-taken
is_new-requires-clause-taken c = omega (arith, below_at c.args.class.now (length c.args.taken.now) c.loop-n.n c.requires.classes c.loop-n-test.true, c.loop-n.invariant.room)

pub bounds-taken-class : goal.bounds-taken-class
bounds-taken-class c = omega (arith, below_at c.args.class.now (length c.args.taken.now) c.loop-n.n c.requires.classes c.loop-n-test.true, c.loop-n.invariant.room)

pub loop-n-preserved : goal.loop-n-preserved
loop-n-preserved c =
    let class = c.args.class.now in
    let marks = c.args.marks.now in
    let reps = c.args.reps.now.items in
    let n = c.loop-n.n in
    let taken = c.loop-n.taken in
    let now = c.loop-n.reps.items in
    let h = c.loop-n.invariant in
    let room = length c.args.taken.now in
    let within : class_at class n < length taken = omega (arith, below_at class room n c.requires.classes c.loop-n-test.true, h.room) in
    let test : c.is_new.result ≡ is_new_by class marks reps n = c.is_new.ensures ∙ test_is class marks taken reps now n h.taken within h.reps in
    let done : Turned class marks reps n room c.if-is_new.taken c.if-is_new.reps.items = elim c.if-is_new.branch [
      | then-is_new+in_ok-push w ↦ turned_new class marks taken c.if-is_new.taken reps now c.if-is_new.reps.items n room h.taken h.room within h.reps (sym test ∙ w.if-is_new.true) w.taken-is (ap (λ v. v.items) w.reps-is ∙ w.in_ok-push.ensures.items)
      | else-is_new w ↦ turned_old class marks taken c.if-is_new.taken reps now c.if-is_new.reps.items n room h.taken h.room h.reps (sym test ∙ w.if-is_new.false) w.taken-is (ap (λ v. v.items) w.reps-is)
    ] in
    record { reps = done.0; taken = done.1; room = done.2 }
