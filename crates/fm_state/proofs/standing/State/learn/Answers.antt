use Rattle.std.proofs.Common.{refl, subst}
use Rattle.fm_sat.specs.Learning.{IsAsserting, LearntBy}
use Rattle.fm_steps.specs.State.{State}
use Rattle.fm_state.proofs.standing.State.learn.Goals as goal

pub put_learnt-requires-clause-free : goal.put_learnt-requires-clause-free
put_learnt-requires-clause-free c =
    let s = c.args.self.now in
    let v = c.in_ok-learnt.learnt in
    let f = c.in_ok-learnt.ensures in
    let a = subst (λ (x : State). IsAsserting x.trail.entries v.lits.items v.lit v.level) c.self.view_is (record { falsified = f.falsified; alone = f.alone; highest = f.level; lower = f.lower }) in
    (c.learning_goes_on.ensures.added s.clauses s.trail.entries v.lits.items v.lit v.level c.requires.explained a).free

pub returns : goal.returns
returns c =
    let v = c.in_ok-learnt.learnt in
    let f = c.in_ok-learnt.ensures in (
      record {
        conflict = c.requires.conflict;
        steps = v.chain.steps.items;
        lits = v.lits.items;
        learnt = subst (λ (x : State). LearntBy x.clauses x.trail.entries c.args.clause v.chain.steps.items v.lits.items) c.self.view_is f.chain;
        distinct = f.once;
        lit = v.lit;
        level = v.level;
        asserting = subst (λ (x : State). IsAsserting x.trail.entries v.lits.items v.lit v.level) c.self.view_is (record { falsified = f.falsified; alone = f.alone; highest = f.level; lower = f.lower });
        after = c.in_ok-put_learnt.ensures;
      },
      refl,
    )
