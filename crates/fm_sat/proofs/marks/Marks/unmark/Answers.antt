use Rattle.std.proofs.Common.{arith}
use Rattle.std.proofs.lemmas.Option.{slice_get_within}
use Rattle.fm_sat.proofs.Counts.{mark_none}
use Rattle.fm_sat.proofs.Counted.{counted_less, counted_some'}
use Rattle.fm_sat.proofs.marks.Marks.unmark.Goals as goal

pub overflow_sub-self : goal.overflow_sub-self
overflow_sub-self c = counted_some' c.args.trail.now.entries c.args.top c.args.self.now.marks.items c.args.self.now.count c.args.self.now.lower.items c.args.place c.requires.entry.0 c.requires.counted c.requires.marked c.requires.entry.1 c.requires.entry.2

pub returns-clause-counted : goal.returns-clause-counted
returns-clause-counted c = counted_less c.args.trail.now.entries c.args.top c.args.self.now.marks.items c.args.self.now.count c.args.self.now.lower.items c.args.place c.requires.entry.0 c.requires.counted c.requires.marked c.requires.entry.1 c.requires.entry.2

pub returns-clause-unmarked : goal.returns-clause-unmarked
returns-clause-unmarked c = mark_none c.args.self.now.marks.items c.args.place (slice_get_within c.args.self.now.marks.items c.args.place _ c.requires.marked)

pub returns-clause-fewer : goal.returns-clause-fewer
returns-clause-fewer c = omega (arith, counted_some' c.args.trail.now.entries c.args.top c.args.self.now.marks.items c.args.self.now.count c.args.self.now.lower.items c.args.place c.requires.entry.0 c.requires.counted c.requires.marked c.requires.entry.1 c.requires.entry.2)
