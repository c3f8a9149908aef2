use Rattle.std.proofs.Common.{◌≡◌, [], ◌∷◌, map, take}
use Rattle.fm_bank.specs.Terms.{numbers}
use Rattle.fm_region.proofs.regions.single_regions.Given as goal

abbrev pub invariant-loop-term : goal.invariant-loop-term
invariant-loop-term l = l.regions ≡ map (λ c. c ∷ []) (numbers (take l.term-index l.terms))
