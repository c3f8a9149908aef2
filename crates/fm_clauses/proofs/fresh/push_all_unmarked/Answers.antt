use Rattle.fm_clauses.specs.Marked.{marked}
use Rattle.fm_clauses.proofs.Marking.{fresh_none, fresh_step}
use Rattle.fm_clauses.proofs.fresh.push_all_unmarked.Goals as goal

pub loop-sort-init : goal.loop-sort-init
loop-sort-init c = fresh_none (marked c.args.marks.now) c.args.ranks.now.items

pub loop-sort-preserved : goal.loop-sort-preserved
loop-sort-preserved c = fresh_step c.loop-sort.sort (marked c.args.marks.now) c.args.ranks.now.items c.loop-sort.ranks.items c.push_unmarked.new.ranks.items c.loop-sort.invariant c.in_ok-push_unmarked.ensures
