use Rattle.std.proofs.Common.{◌≡◌, drop}
use Rattle.fm_cong.specs.Facts.{are_parted}
use Rattle.fm_cong.proofs.queries.is_apart_by_facts.Given as goal

abbrev pub invariant-loop-fact : goal.invariant-loop-fact
invariant-loop-fact l = are_parted l.state.classes.class.cells.items l.node l.other (drop l.fact-index l.state.facts.items) ≡ are_parted l.state.classes.class.cells.items l.node l.other l.state.facts.items
