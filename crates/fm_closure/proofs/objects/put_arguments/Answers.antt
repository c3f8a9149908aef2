use Rattle.std.proofs.Common.{take, arith}
use Rattle.std.proofs.lemmas.List.Elements.{All-more, All-weaker}
use Rattle.fm_closure.specs.Signatures.{HasArguments}
use Rattle.fm_closure.proofs.Passing.{arguments_kept}
use Rattle.fm_closure.proofs.Soundness.{All-whole}
use Rattle.fm_closure.proofs.objects.put_arguments.Goals as goal

pub loop-term-preserved : goal.loop-term-preserved
loop-term-preserved c =
    let bank = c.args.bank.now.terms in
    let terms = c.args.terms.now in
    let i = c.loop-term.term-index in
    let old = c.loop-term.objects.keys in
    let new = c.put_arguments_of.new.objects.keys in
    let step = c.in_ok-put_arguments_of.ensures in
    record {
      there = All-more (HasArguments new bank) terms i (record { 0 = 0 }) c.loop-term-test.true (All-weaker (HasArguments old bank) (HasArguments new bank) (arguments_kept bank old new step.kept) (take i terms) c.loop-term.invariant.there) step.there;
      kept = λ x h. step.kept x (c.loop-term.invariant.kept x h);
    }

pub returns-clause-there : goal.returns-clause-there
returns-clause-there c = All-whole (HasArguments c.loop-term.objects.keys c.args.bank.now.terms) c.args.terms.now c.loop-term.term-index (omega (arith, c.loop-term-test.false)) c.loop-term.invariant.there
