use Rattle.std.proofs.Common.{arith}
use Rattle.std.proofs.lemmas.List.Elements.{All-more}
use Rattle.fm_closure.specs.Classes.{AreClosed}
use Rattle.fm_closure.proofs.Soundness.{All-whole}
use Rattle.fm_closure.proofs.scan.unjoined_with.Goals as goal

pub loop-b-preserved : goal.loop-b-preserved
loop-b-preserved c = All-more (AreClosed c.args.objects.now.keys c.args.classes.now c.args.bank.now.terms c.args.a) c.args.over.now c.loop-b.b-index (record { 0 = 0 }) c.loop-b-test.true c.loop-b.invariant c.in_default.ensures.none

pub returns-clause-none : goal.returns-clause-none
returns-clause-none c = All-whole (AreClosed c.args.objects.now.keys c.args.classes.now c.args.bank.now.terms c.args.a) c.args.over.now c.loop-b.b-index (omega (arith, c.loop-b-test.false)) c.loop-b.invariant
