use Rattle.std.proofs.Common.{◌≡◌, drop}
use Rattle.std.specs.List.{list_all}
use Rattle.fm_cert.specs.Lines.{is_on_terms}
use Rattle.fm_bank.specs.declared.literal.Literal.{Literal}
use Rattle.fm_blocks.proofs.conflict.are_on_terms.Given as goal

abbrev pub invariant-loop-lit : goal.invariant-loop-lit
invariant-loop-lit l =
    let p = λ (k : Literal). is_on_terms l.bank.sig l.bank.terms k.atom in
    list_all p l.lits ≡ list_all p (drop l.lit-index l.lits)
