use Rattle.std.proofs.Common.{arith}
use Rattle.std.specs.List.{All}
use Rattle.std.proofs.lemmas.List.Elements.{All-more}
use Rattle.fm_base.specs.declared.ids.TermId.{TermId}
use Rattle.fm_closure.specs.Classes.{AreClosed}
use Rattle.fm_closure.proofs.Soundness.{All-whole}
use Rattle.fm_closure.proofs.scan.unjoined_congruence.Goals as goal

pub loop-a-preserved : goal.loop-a-preserved
loop-a-preserved c = All-more (λ (a : TermId). All (AreClosed c.args.objects.now.keys c.args.classes.now c.args.bank.now.terms a) c.args.over.now) c.args.over.now c.loop-a.a-index (record { 0 = 0 }) c.loop-a-test.true c.loop-a.invariant c.in_default.ensures.none

pub returns-clause-none : goal.returns-clause-none
returns-clause-none c = All-whole (λ (a : TermId). All (AreClosed c.args.objects.now.keys c.args.classes.now c.args.bank.now.terms a) c.args.over.now) c.args.over.now c.loop-a.a-index (omega (arith, c.loop-a-test.false)) c.loop-a.invariant
