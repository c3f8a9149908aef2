use Rattle.fm_clauses.proofs.Listings.{read_none, read_some}
use Rattle.fm_clauses.proofs.scoped.push_sort.Goals as goal

pub returns-in-None : goal.returns-in-None
returns-in-None c = read_none c.args.scope.now c.args.v c.args.sorts.now.items c.in-None.ensures.lookup.0

pub returns-in_ok-push-in-Some : goal.returns-in_ok-push-in-Some
returns-in_ok-push-in-Some c = read_some c.args.scope.now c.args.v c.in-Some.sort.now c.args.sorts.now.items c.push.new.self.items c.in-Some.ensures.lookup.0 c.in-Some.ensures.lookup.1 c.in_ok-push-in-Some.ensures.items
