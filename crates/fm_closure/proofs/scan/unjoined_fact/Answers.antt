use Rattle.std.proofs.Common.{arith}
use Rattle.std.proofs.lemmas.List.Elements.{All-more}
use Rattle.fm_closure.specs.Classes.{AreJoined}
use Rattle.fm_closure.specs.declared.object.Object.{Object}
use Rattle.fm_closure.proofs.Soundness.{All-whole}
use Rattle.fm_closure.proofs.scan.unjoined_fact.Goals as goal

pub loop-x-preserved : goal.loop-x-preserved
loop-x-preserved c = All-more (AreJoined c.args.objects.now.keys c.args.classes.now) c.args.facts.now c.loop-x.x-index (Object.Yes, Object.Yes) c.loop-x-test.true c.loop-x.invariant c.in_default.ensures.none

pub returns-clause-none : goal.returns-clause-none
returns-clause-none c = All-whole (AreJoined c.args.objects.now.keys c.args.classes.now) c.args.facts.now c.loop-x.x-index (omega (arith, c.loop-x-test.false)) c.loop-x.invariant
