use Rattle.std.proofs.Common.{◌≡◌, ◌∙◌, ℕ, List, refl, sym, subst, arith}
use Rattle.std.specs.List.{All}
use Rattle.fm_cells.specs.Rings.{own_or}
use Rattle.fm_cong.specs.Graphs.{IsCoarser, pairs_of}
use Rattle.fm_cong.proofs.Marking.{after_extends, after_more, after_none}
use Rattle.fm_cong.proofs.Reading.{holds_coarser}
use Rattle.fm_cong.proofs.levels.settle_on.Goals as goal

pub loop-state-init : goal.loop-state-init
loop-state-init c = record { steady = c.requires.steady; quiet = c.requires.quiet; entered = c.requires.entered; facts = refl; coarser = λ x y e. e; after = after_none c.args.state.now }

pub loop-state-preserved : goal.loop-state-preserved
loop-state-preserved c =
    let s = c.loop-state.state in
    let inv = c.loop-state.invariant in
    let n = c.in_ok-enter_next.ensures in
    let r = c.in_ok-run.ensures in
    let coarser : IsCoarser s.classes.class.cells.items c.run.new.state.classes.class.cells.items = subst (λ (xs : List ℕ). IsCoarser xs c.run.new.state.classes.class.cells.items) n.class r.coarser in
    let facts : c.run.new.state.facts.items ≡ s.facts.items = r.extends.facts ∙ n.facts in
    let holds = holds_coarser (pairs_of s.facts.items) s.classes.class.cells.items c.run.new.state.classes.class.cells.items coarser inv.steady.holds in
    record {
      steady = record { working = r.working; holds = subst (λ fs. All (λ (p : ℕ × ℕ). own_or c.run.new.state.classes.class.cells.items p.0 ≡ own_or c.run.new.state.classes.class.cells.items p.1) (pairs_of fs)) (sym facts) holds };
      quiet = r.waiting;
      entered = omega (arith, r.extends.entered, n.entered, c.loop-state-test.true);
      facts = facts ∙ inv.facts;
      coarser = λ x y e. coarser x y (inv.coarser x y e);
      after = after_more c.args.state.now s c.run.new.state inv.after (after_more s c.enter_next.new.state c.run.new.state n.after (after_extends c.enter_next.new.state c.run.new.state r.extends));
    }

pub returns-in_err-enter_next-clause-after : goal.returns-in_err-enter_next-clause-after
returns-in_err-enter_next-clause-after c = after_more c.args.state.now c.loop-state.state c.enter_next.new.state c.loop-state.invariant.after c.in_err-enter_next.ensures.after

pub returns-in_err-run-clause-after : goal.returns-in_err-run-clause-after
returns-in_err-run-clause-after c =
    let s = c.loop-state.state in
    after_more c.args.state.now s c.run.new.state c.loop-state.invariant.after (after_more s c.enter_next.new.state c.run.new.state c.in_ok-enter_next.ensures.after (after_extends c.enter_next.new.state c.run.new.state c.in_err-run.ensures.extends))

pub returns-clause-settled : goal.returns-clause-settled
returns-clause-settled c = record { steady = c.loop-state.invariant.steady; all = omega (arith, c.loop-state.invariant.entered, c.loop-state-test.false) }
