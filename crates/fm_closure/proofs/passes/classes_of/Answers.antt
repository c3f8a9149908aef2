use Rattle.fm_closure.proofs.Passing.{there_at}
use Rattle.fm_closure.proofs.passes.classes_of.Goals as goal

pub class_in-requires-clause-there : goal.class_in-requires-clause-there
class_in-requires-clause-there c = there_at c.args.objects.now.keys c.args.terms.now c.loop-term.term-index (record { 0 = 0 }) c.loop-term-test.true c.requires.there
