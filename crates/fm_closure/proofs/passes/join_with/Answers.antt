use Rattle.std.proofs.Common.{ℕ, List, subst}
use Rattle.std.specs.List.{Contains}
use Rattle.fm_bank.specs.Closure.{object}
use Rattle.fm_closure.proofs.Uniting.{class_contained}
use Rattle.fm_closure.proofs.passes.join_with.Goals as goal

pub join-requires-clause-left : goal.join-requires-clause-left
join-requires-clause-left c =
    let w = c.in-Some-unjoined_terms.ensures.some.of_classes in
    subst (λ (cs : List ℕ). Contains cs c.in-Some-unjoined_terms.c) c.as_slice.ensures (class_contained c.args.objects.now.keys c.as_slice.result.now (object c.args.a.0) c.in-Some-unjoined_terms.c w.left)

pub join-requires-clause-right : goal.join-requires-clause-right
join-requires-clause-right c =
    let w = c.in-Some-unjoined_terms.ensures.some.of_classes in
    subst (λ (cs : List ℕ). Contains cs c.in-Some-unjoined_terms.d) c.as_slice.ensures (class_contained c.args.objects.now.keys c.as_slice.result.now (object c.in-Some.b.0) c.in-Some-unjoined_terms.d w.right)
