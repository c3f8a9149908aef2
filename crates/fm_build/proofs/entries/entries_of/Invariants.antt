use Rattle.fm_build.specs.Entries.{AreEntries}
use Rattle.fm_build.proofs.entries.entries_of.Given as goal

abbrev pub invariant-loop-term : goal.invariant-loop-term
invariant-loop-term l = AreEntries l.bank.terms l.marks l.elements l.symbol.0 l.term l.entries.items
