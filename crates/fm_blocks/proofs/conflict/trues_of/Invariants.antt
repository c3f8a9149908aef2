use Rattle.std.proofs.Common.{◌≡◌, take}
use Rattle.fm_cert.specs.Lines.{trues_of}
use Rattle.fm_bank.specs.Terms.{numbers}
use Rattle.fm_blocks.proofs.conflict.trues_of.Given as goal

abbrev pub invariant-loop-lit : goal.invariant-loop-lit
invariant-loop-lit l = numbers l.terms.items ≡ trues_of (take l.lit-index l.lits)
