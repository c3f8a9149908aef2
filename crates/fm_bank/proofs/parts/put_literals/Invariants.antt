use Rattle.std.proofs.Common.{◌≡◌, drop}
use Rattle.fm_bank.specs.GroundTerms.{ground_literals_grown}
use Rattle.fm_bank.specs.Interning.{IsFront}
use Rattle.fm_bank.proofs.parts.put_literals.Given as goal

-- the rest, from what is there, gives the whole
abbrev pub invariant-loop-lit : goal.invariant-loop-lit
invariant-loop-lit l = record {
  behind : ground_literals_grown l.fn.lits l.fn.terms.keys ≡ ground_literals_grown (drop l.lit-index l.fn.lits) l.terms.keys;
  front : IsFront l.fn.terms.keys l.terms.keys;
}
