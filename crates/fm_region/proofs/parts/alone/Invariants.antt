use Rattle.std.proofs.Common.{◌≡◌, ◌∷◌, [], map, take}
use Rattle.std.specs.Prelude.{if◌then◌else◌}
use Rattle.fm_region.specs.Rows.{apart_in}
use Rattle.fm_region.proofs.parts.alone.Given as goal

abbrev pub invariant-loop-c : goal.invariant-loop-c
invariant-loop-c l = l.parts ≡ map (λ c. record { classes = c ∷ []; inside = map (λ d. if apart_in l.near d c then 1 else 0) l.classes }) (take l.c-index l.classes)
