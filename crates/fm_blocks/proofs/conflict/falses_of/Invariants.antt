use Rattle.std.proofs.Common.{◌≡◌, take}
use Rattle.fm_cert.specs.Lines.{falses_of}
use Rattle.fm_bank.specs.Terms.{numbers}
use Rattle.fm_blocks.proofs.conflict.falses_of.Given as goal

abbrev pub invariant-loop-lit : goal.invariant-loop-lit
invariant-loop-lit l = numbers l.terms.items ≡ falses_of (take l.lit-index l.lits)
