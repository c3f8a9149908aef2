use Rattle.fm_closure.proofs.Passing.{arguments_put}
use Rattle.fm_closure.proofs.objects.put_arguments_of.Goals as goal

pub returns-clause-there : goal.returns-clause-there
returns-clause-there c = arguments_put c.put_terms.new.objects.keys c.args.bank.now.terms c.args.term _ _ c.term.ensures c.in_ok-put_terms.ensures.there
