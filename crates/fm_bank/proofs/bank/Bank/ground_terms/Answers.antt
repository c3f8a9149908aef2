use Rattle.fm_bank.proofs.GroundSteps.{held_ground, partway_ground}
use Rattle.fm_bank.proofs.bank.Bank.ground_terms.Goals as goal

pub invariant_of-self : goal.invariant_of-self
invariant_of-self c =
    held_ground c.self.inside.sig c.self.inside.terms.keys c.put_literals.new.terms.keys c.self.inside.atoms.keys c.args.self.now c.args.clause.now c.as_slice.result.now c.put_literals.result c.self.view_is c.self.invariant c.requires.clause c.as_slice.ensures c.put_literals.ensures.ok c.put_literals.ensures.err

pub returns-clause-err : goal.returns-clause-err
returns-clause-err c =
    partway_ground c.self.inside.sig c.self.inside.terms.keys c.put_literals.new.terms.keys c.self.inside.atoms.keys c.args.self.now c.args.clause.now.lits c.as_slice.result.now c.put_literals.result c.self.view_is c.as_slice.ensures c.put_literals.ensures.err
