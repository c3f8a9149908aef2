use Rattle.std.proofs.Common.{◌<◌, length, false, ap, ◌∙◌, arith}
use Rattle.fm_bank.specs.declared.literal.Literal.{Literal}
use Rattle.fm_bank.specs.Interning.{Held, is_atom, with_atoms}
use Rattle.fm_bank.specs.declared.atom.Atom.{Atom}
use Rattle.fm_bank.proofs.Steps.{atoms_behind, lits_behind}
use Rattle.fm_state.proofs.Distinct.{all_rest}
use Rattle.fm_state.proofs.numbering.numbered_all.Goals as goal

-- what a read past the end would give
abbrev none : Literal
none = record { positive = false; atom = Atom.Equal (record { 0 = 0 }) (record { 0 = 0 }) }

pub loop-lit-preserved : goal.loop-lit-preserved
loop-lit-preserved c =
    let ls = c.args.lits.now in
    let i = c.loop-lit.lit-index in
    let v = c.loop-lit.invariant in
    let final = with_atoms c.args.bank.now.atoms ls in
    let after = c.in_ok-atom.ensures.atoms in
    let atoms = ap (λ (h : Held). h.atoms) after in
    let lt : i < length ls = omega (arith, c.loop-lit-test.true) in
    let behind = atoms_behind ls i none c.loop-lit.bank.atoms c.atom.new.self.atoms final lt v.atoms atoms in
    record {
      sig = ap (λ (h : Held). h.sig) after ∙ v.sig;
      terms = ap (λ (h : Held). h.terms) after ∙ v.terms;
      sorted = all_rest (λ (k : Literal). is_atom c.args.bank.now.sig c.args.bank.now.terms k.atom) ls i none lt v.sorted;
      atoms = behind;
      numbers = lits_behind ls i none c.loop-lit.bank.atoms c.atom.new.self.atoms final c.loop-lit.found.items c.push.new.self.items c.in_ok-atom.atom lt behind atoms c.in_ok-atom.ensures.number v.numbers c.in_ok-push.ensures.items;
    }
