use Rattle.fm_bank.proofs.GroundSteps.{ground_left_stopped, ground_right_stopped}
use Rattle.fm_bank.proofs.Steps.{on_err}
use Rattle.fm_bank.proofs.parts.put_atom_terms.Goals as goal

pub returns-in_err-put_term-in-Equal-clause-err : goal.returns-in_err-put_term-in-Equal-clause-err
returns-in_err-put_term-in-Equal-clause-err c =
    on_err c.from_residual-in_err-put_term-in-Equal.result (ground_left_stopped c.args.atom.now c.in-Equal.left c.in-Equal.right c.args.terms.now.keys c.put_term.new.terms.keys c.in-Equal.is c.in_err-put_term-in-Equal.ensures.err)

pub returns-in_err-put_term-in-Equal-2-clause-err : goal.returns-in_err-put_term-in-Equal-2-clause-err
returns-in_err-put_term-in-Equal-2-clause-err c =
    on_err c.from_residual-in_err-put_term-in-Equal-2.result (ground_right_stopped c.args.atom.now c.in-Equal.left c.in-Equal.right c.args.terms.now.keys c.put_term.new.terms.keys c.put_term-in-Equal.new.terms.keys _ c.in-Equal.is c.in_ok-put_term-in-Equal.ensures.ok c.in_err-put_term-in-Equal-2.ensures.err)
