use Rattle.std.proofs.Common.{◌∙◌}
use Rattle.std.proofs.lemmas.List.{drop_more}
use Rattle.fm_clauses.proofs.Listings.{reads_more}
use Rattle.fm_clauses.proofs.scoped.sorts_at.Goals as goal

pub loop-v-preserved : goal.loop-v-preserved
loop-v-preserved c =
    reads_more c.args.scope.now c.args.used.now c.loop-v.v-index _ c.loop-v.sorts.items c.push_sort.new.sorts.items (drop_more c.args.used.now c.loop-v.v-index 0 c.loop-v-test.true) c.in_ok-push_sort.ensures ∙ c.loop-v.invariant
