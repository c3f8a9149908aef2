use Rattle.std.proofs.Common.{ℕ, List, subst}
use Rattle.std.specs.List.{Contains}
use Rattle.fm_closure.specs.Classes.{number_of}
use Rattle.fm_closure.proofs.Uniting.{class_contained}
use Rattle.fm_closure.proofs.passes.join_fact.Goals as goal

pub join-requires-clause-left : goal.join-requires-clause-left
join-requires-clause-left c = subst (λ (cs : List ℕ). Contains cs c.in-Some.c) c.as_slice.ensures (class_contained c.args.objects.now.keys c.as_slice.result.now (number_of c.args.fact.0) c.in-Some.c c.in-Some.ensures.some.left)

pub join-requires-clause-right : goal.join-requires-clause-right
join-requires-clause-right c = subst (λ (cs : List ℕ). Contains cs c.in-Some.d) c.as_slice.ensures (class_contained c.args.objects.now.keys c.as_slice.result.now (number_of c.args.fact.1) c.in-Some.d c.in-Some.ensures.some.right)
