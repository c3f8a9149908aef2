use Rattle.std.proofs.Common.{◌≡◌, take}
use Rattle.fm_cert.specs.Lines.{terms_of_clause}
use Rattle.fm_bank.specs.Terms.{numbers}
use Rattle.fm_blocks.proofs.conflict.roots_of.Given as goal

abbrev pub invariant-loop-lit : goal.invariant-loop-lit
invariant-loop-lit l = numbers l.terms.items ≡ terms_of_clause (take l.lit-index l.lits)
