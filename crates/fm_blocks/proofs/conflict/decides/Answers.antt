use Rattle.std.proofs.Common.{sym, ◌∙◌}
use Rattle.fm_closure.specs.Asked.{test_of}
use Rattle.fm_blocks.proofs.Asking.{decided_no, decided_yes}
use Rattle.fm_blocks.proofs.conflict.decides.Goals as goal

pub returns-clause-yes : goal.returns-clause-yes
returns-clause-yes c = λ e. decided_yes c.args.bank.now.terms c.args.over.now c.args.eqs.now (test_of c.in_ok-closed.closed) c.in_ok-closed.ensures c.args.lits.now (sym c.shows-found.ensures ∙ e)

pub returns-clause-no : goal.returns-clause-no
returns-clause-no c = λ e. decided_no c.args.bank.now.terms c.args.over.now c.args.eqs.now (test_of c.in_ok-closed.closed) c.in_ok-closed.ensures c.args.lits.now (sym c.shows-found.ensures ∙ e)
