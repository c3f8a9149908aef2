use Rattle.std.proofs.Common.{Bool, List, cond, sym, ap, subst}
use Rattle.fm_guide.specs.declared.event.Word.{Word}
use Rattle.fm_sat.specs.Learning.{IsTopLevel}
use Rattle.fm_steps.specs.Rows.{Offer}
use Rattle.fm_steps.specs.State.{Clause, Trail}
use Rattle.fm_state.proofs.Conflicts.{conflict_high, conflict_low}
use Rattle.fm_state.proofs.groups.conflict_at.Goals as goal

pub returns-then-top_level-eq0 : goal.returns-then-top_level-eq0
returns-then-top_level-eq0 c = λ d at.
    let s = c.args.state.now in
    let n = c.args.number in
    let top = subst (λ (cs : List Clause). IsTopLevel cs s.trail.entries n c.top_level.result) c.store.ensures (subst (λ (t : Trail). IsTopLevel c.store.result.now.clauses t.entries n c.top_level.result) c.trail.ensures c.top_level.ensures) in
    sym (ap (λ (b : Bool). cond b (Offer.Answer Word.Unsat) (Offer.Learn n)) (conflict_low s.clauses s.trail.entries n c.top_level.result d top at c.if-top_level-eq0.true))

pub returns-else-top_level-eq0 : goal.returns-else-top_level-eq0
returns-else-top_level-eq0 c = λ d at.
    let s = c.args.state.now in
    let n = c.args.number in
    let top = subst (λ (cs : List Clause). IsTopLevel cs s.trail.entries n c.top_level.result) c.store.ensures (subst (λ (t : Trail). IsTopLevel c.store.result.now.clauses t.entries n c.top_level.result) c.trail.ensures c.top_level.ensures) in
    sym (ap (λ (b : Bool). cond b (Offer.Answer Word.Unsat) (Offer.Learn n)) (conflict_high s.clauses s.trail.entries n c.top_level.result d top at c.if-top_level-eq0.false))
