use Rattle.std.proofs.Common.{drop, ◌≡◌}
use Rattle.fm_apply.specs.Applied.{first_wrong}
use Rattle.fm_apply.specs.Scoped.{terms_at}
use Rattle.fm_apply.proofs.application.first_wrong.Given as goal

abbrev pub invariant-loop-i : goal.invariant-loop-i
invariant-loop-i l = first_wrong (drop l.i l.types) (terms_at l.arena (drop l.i l.args)) (drop l.i l.items) ≡ first_wrong l.types (terms_at l.arena l.args) l.items
