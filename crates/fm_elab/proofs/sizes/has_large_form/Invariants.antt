use Rattle.std.proofs.Common.{◌≡◌, drop}
use Rattle.std.specs.List.{list_any}
use Rattle.fm_elab.specs.Sizes.{is_large_form}
use Rattle.fm_elab.proofs.sizes.has_large_form.Given as goal

abbrev pub invariant-loop-formula : goal.invariant-loop-formula
invariant-loop-formula l = list_any is_large_form (drop l.formula-index l.formulas) ≡ list_any is_large_form l.formulas
