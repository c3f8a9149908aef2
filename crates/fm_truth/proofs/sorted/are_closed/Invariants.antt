use Rattle.std.proofs.Common.{◌≡◌, drop}
use Rattle.std.specs.List.{list_all}
use Rattle.fm_base.specs.Truth.{is_closed}
use Rattle.fm_truth.proofs.sorted.are_closed.Given as goal

abbrev pub invariant-loop-formula : goal.invariant-loop-formula
invariant-loop-formula l = list_all (λ f. is_closed f l.sig) (drop l.formula-index l.formulas) ≡ list_all (λ f. is_closed f l.sig) l.formulas
