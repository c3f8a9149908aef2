use Rattle.std.proofs.Common.{◌+◌, Bool, get_or, take, sym, subst, arith}
use Rattle.std.specs.List.{Contains}
use Rattle.std.proofs.lemmas.List.Elements.{All-contains_itself, All-get_or}
use Rattle.fm_closure.specs.Classes.{AreJoined}
use Rattle.fm_closure.specs.Signatures.{FactsAreDone, IsPass}
use Rattle.fm_closure.specs.declared.object.Object.{Object}
use Rattle.fm_closure.proofs.Passing.{facts_next, pass_fact}
use Rattle.fm_closure.proofs.Soundness.{All-whole}
use Rattle.fm_closure.proofs.passes.join_facts.Goals as goal

pub loop-fact-preserved : goal.loop-fact-preserved
loop-fact-preserved c =
    let terms = c.args._bank.now.terms in
    let over = c.args._over.now in
    let os = c.args.objects.now.keys in
    let facts = c.args.facts.now in
    let start = c.args.classes.now in
    let cs = c.loop-fact.classes in
    let i = c.loop-fact.fact-index in
    let d : Object × Object = (Object.Yes, Object.Yes) in
    let lt = c.loop-fact-test.true in
    let inv = c.loop-fact.invariant in
    let here = All-get_or (Contains facts) facts i d lt (All-contains_itself facts) in
    let after = c.join_fact.new.classes in
    let b = c.in_ok-joined.joined in
    let j = c.in_ok-joined.ensures in
    record {
      pass = subst (IsPass os terms over facts start after) (sym c.either-changed.ensures) (pass_fact terms over os facts start cs after c.loop-fact.changed b (get_or facts i d) inv.pass here j);
      done = subst (λ (x : Bool). FactsAreDone os (take (i + 1) facts) after x) (sym c.either-changed.ensures) (facts_next terms over os facts start cs after c.loop-fact.changed b i d lt inv.pass j inv.done);
    }

pub returns-clause-done : goal.returns-clause-done
returns-clause-done c = λ e. All-whole (AreJoined c.args.objects.now.keys c.loop-fact.classes) c.args.facts.now c.loop-fact.fact-index (omega (arith, c.loop-fact-test.false)) (c.loop-fact.invariant.done e)
