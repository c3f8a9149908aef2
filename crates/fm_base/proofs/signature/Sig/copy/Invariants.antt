use Rattle.std.proofs.Common.{◌≡◌, take}
use Rattle.fm_base.proofs.signature.Sig.copy.Given as goal

abbrev pub invariant-loop-rank : goal.invariant-loop-rank
invariant-loop-rank l = l.ranks.items ≡ take l.rank-index l.fn.self.ranks
