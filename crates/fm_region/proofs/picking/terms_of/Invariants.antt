use Rattle.std.proofs.Common.{◌≡◌, take}
use Rattle.fm_bank.specs.Terms.{numbers}
use Rattle.fm_region.proofs.picking.terms_of.Given as goal

abbrev pub invariant-loop-term : goal.invariant-loop-term
invariant-loop-term l = numbers l.terms.items ≡ take l.term-index l.region
