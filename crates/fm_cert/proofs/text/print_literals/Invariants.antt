use Rattle.std.proofs.Common.{◌≡◌, ◌++◌, take}
use Rattle.std.specs.List.{AllByRecursion, flat_map}
use Rattle.fm_cert.specs.Fits.{FitsLiteral, IsOrdered}
use Rattle.fm_cert.specs.Spelling.{spelling_of_literal}
use Rattle.fm_cert.proofs.text.print_literals.Given as goal

abbrev pub invariant-loop-lit : goal.invariant-loop-lit
invariant-loop-lit l = (l.out.items ≡ l.fn.out.items ++ flat_map spelling_of_literal (take l.lit-index l.lits)) × (AllByRecursion IsOrdered l.lits → AllByRecursion FitsLiteral (take l.lit-index l.lits))
