use Rattle.std.proofs.Common.{◌≡◌, ◌<◌, ℕ, length, get_or}
use Rattle.fm_base.specs.declared.ids.TermId.{TermId}
use Rattle.fm_region.proofs.source.are_same_terms.Given as goal

abbrev pub invariant-loop-i : goal.invariant-loop-i
invariant-loop-i l = (k : ℕ) (d : TermId) → k < l.i → get_or l.a k d ≡ get_or l.b k d
