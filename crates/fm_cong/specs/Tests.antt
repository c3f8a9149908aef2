-- The two tests of what an e-graph holds.
use Rattle.fm_bank.specs.Tests.{AreTests, Tests}
use Rattle.fm_cong.specs.Facts.{pairs_of, unequal_of}
use Rattle.fm_cong.specs.Held.{Held}

-- they decide what follows equal, and what is apart, from the literals read over all registered terms
abbrev pub AreTestsOf : Held → Tests → Type 0
AreTestsOf g t = AreTests g.shapes (pairs_of g.facts) (unequal_of g.facts) t

abbrev pub HasTests : Held → Type 0
HasTests g = (t : Tests) × AreTestsOf g t
