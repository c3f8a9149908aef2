use Rattle.std.proofs.Common.{◌≡◌, true, map, take, drop}
use Rattle.std.specs.List.{list_all}
use Rattle.fm_bank.specs.Interning.{is_atom, lit_in, with_atoms}
use Rattle.fm_bank.specs.declared.literal.Literal.{Literal}
use Rattle.fm_state.proofs.numbering.numbered_all.Given as goal

abbrev pub invariant-loop-lit : goal.invariant-loop-lit
invariant-loop-lit l = record {
  sig : l.bank.sig ≡ l.fn.bank.sig;
  terms : l.bank.terms ≡ l.fn.bank.terms;
  sorted : list_all (λ (k : Literal). is_atom l.fn.bank.sig l.fn.bank.terms k.atom) (drop l.lit-index l.lits) ≡ true;
  atoms : with_atoms l.fn.bank.atoms l.lits ≡ with_atoms l.bank.atoms (drop l.lit-index l.lits);
  numbers : l.found.items ≡ map (lit_in (with_atoms l.fn.bank.atoms l.lits)) (take l.lit-index l.lits);
}
