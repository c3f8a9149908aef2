use Rattle.std.proofs.Common.{◌≡◌, map, take}
use Rattle.fm_base.specs.declared.ids.TermId.{TermId}
use Rattle.fm_cert.specs.Lines.{pairs_of}
use Rattle.fm_blocks.proofs.conflict.pairs_of.Given as goal

abbrev pub invariant-loop-lit : goal.invariant-loop-lit
invariant-loop-lit l = map (λ (p : TermId × TermId). (p.0.0, p.1.0)) l.pairs.items ≡ pairs_of (take l.lit-index l.lits)
