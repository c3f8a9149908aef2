use Rattle.std.proofs.Common.{arith}
use Rattle.fm_bank.proofs.GroundSteps.{ground_atom_front, ground_literals_behind, ground_literals_stopped}
use Rattle.fm_bank.proofs.Growing.{front-trans}
use Rattle.fm_bank.proofs.Steps.{on_err}
use Rattle.fm_bank.proofs.parts.put_literals.Goals as goal

pub returns-in_err-put_atom_terms-clause-err : goal.returns-in_err-put_atom_terms-clause-err
returns-in_err-put_atom_terms-clause-err c =
    on_err c.from_residual.result (ground_literals_stopped c.args.lits.now c.loop-lit.lit-index c.lit-item.result c.args.terms.now.keys c.loop-lit.terms.keys c.put_atom_terms.new.terms.keys _ (omega (arith, c.loop-lit-test.true)) c.lit-item.is c.loop-lit.invariant.behind c.loop-lit.invariant.front c.in_err-put_atom_terms.ensures.err)

pub loop-lit-preserved : goal.loop-lit-preserved
loop-lit-preserved c =
    record {
      behind = ground_literals_behind c.args.lits.now c.loop-lit.lit-index c.lit-item.result c.loop-lit.terms.keys c.put_atom_terms.new.terms.keys _ (omega (arith, c.loop-lit-test.true)) c.lit-item.is c.loop-lit.invariant.behind c.in_ok-put_atom_terms.ensures.ok;
      front = front-trans c.args.terms.now.keys c.loop-lit.terms.keys c.put_atom_terms.new.terms.keys c.loop-lit.invariant.front (ground_atom_front c.lit-item.result.atom c.loop-lit.terms.keys c.put_atom_terms.new.terms.keys c.in_ok-put_atom_terms.ensures.ok);
    }
