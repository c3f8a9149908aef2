use Rattle.fm_closure.proofs.Uniting.{listed_first}
use Rattle.fm_closure.proofs.members.Classes.singletons.Goals as goal

pub invariant_of-result : goal.invariant_of-result
invariant_of-result c = listed_first c.args.count c.in_ok-numbers.numbers.items c.in_ok-members.members.items c.in_ok-numbers.ensures c.in_ok-members.ensures
