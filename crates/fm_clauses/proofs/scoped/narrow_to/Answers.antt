use Rattle.fm_clauses.proofs.Listings.{clause_is}
use Rattle.fm_clauses.proofs.scoped.narrow_to.Goals as goal

pub returns : goal.returns
returns c = clause_is c.args.scope.now c.args.lits.now c.args.used.now c.requires.rises c.requires.same c.in_ok-vars.vars c.in_ok-lits.lits c.in_ok-vars.ensures c.in_ok-lits.ensures
