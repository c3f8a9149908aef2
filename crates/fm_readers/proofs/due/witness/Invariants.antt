use Rattle.std.proofs.Common.{drop, map}
use Rattle.fm_bank.specs.Closure.{AreApart}
use Rattle.fm_cong.specs.Facts.{numbers_of_pair, pairs_of}
use Rattle.fm_cong.specs.Held.{AreUnequal}
use Rattle.fm_readers.proofs.due.witness.Given as goal

-- where the terms are apart, they are by what is left
abbrev pub invariant-loop-pair : goal.invariant-loop-pair
invariant-loop-pair l = AreUnequal l.graph l.a.0 l.b.0 → AreApart l.graph.shapes (pairs_of l.graph.facts) (map numbers_of_pair (drop l.pair-index l.pair-items)) l.a.0 l.b.0
