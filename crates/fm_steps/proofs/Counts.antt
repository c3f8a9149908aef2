-- The spent counts are those of the events of a run.
use Rattle.std.proofs.Common.{◌≡◌, ℕ, ◌+◌, List, [], ◌∷◌, refl, sym, ap, subst, arith}
use Rattle.fm_base.specs.declared.ids.Lit.{Lit}
use Rattle.fm_guide.specs.Events.{count_decisions, count_instances, decisions_in, instances_in}
use Rattle.fm_guide.specs.declared.event.Event.{Event}
use Rattle.fm_sat.specs.Learning.{Steps}
use Rattle.fm_steps.specs.Facts.{AreCounted}
use Rattle.fm_steps.specs.Picks.{Known}
use Rattle.fm_steps.specs.Rows.{Offer, Row, after_learning}
use Rattle.fm_steps.specs.Runs.{IsReached, Run, carried, event_of}
use Rattle.fm_steps.specs.State.{Budget, Clause, Problem, State}
use Rattle.fm_steps.proofs.Starts.{start_counted}

-- the counts of one event are added
pub record Adds (s : State) (e : Event) (t : State) : Type 0 where
  pub instances : t.instances ≡ s.instances + instances_in e
  pub decisions : t.decisions ≡ s.decisions + decisions_in e

none : (s : State) (e : Event) (t : State) → instances_in e ≡ 0 → decisions_in e ≡ 0 → t.instances ≡ s.instances → t.decisions ≡ s.decisions → Adds s e t
none s e t i d a b = record { instances = omega (arith, i, a); decisions = omega (arith, d, b) }

learnt : (n : ℕ) (lits : Clause) (l : Lit) (level : ℕ) (steps : Steps) (s : State) → Adds s (Event.Learn n) (after_learning n steps lits l level s)
learnt n lits l level [] s = none s (Event.Learn n) _ refl refl refl refl
learnt n lits l level (step ∷ steps) s = none s (Event.Learn n) _ refl refl refl refl

at_same : {u : State} (s : State) (e : Event) (t : State) → t ≡ u → Adds s e u → Adds s e t
at_same s e t same h = subst (Adds s e) (sym same) h

pub row_adds : (p : Problem) (b : Budget) (s : State) (k : Known) (o : Offer) (t : State) → Row p b s k o t → Adds s (event_of s o) t
row_adds p b s k (Offer.Learn n) t r = at_same s (Event.Learn n) t r.after (learnt n r.lits r.lit r.level r.steps s)
row_adds p b s k (Offer.Unit' n) t r = at_same s (Event.Unit n) t r.after (none s _ _ refl refl refl refl)
row_adds p b s k (Offer.Take e) t r = at_same s (Event.Take e) t r.after (none s _ _ refl refl refl refl)
row_adds p b s k (Offer.Lemma e d) t r = at_same s (Event.Lemma e) t r.after (none s _ _ refl refl refl refl)
row_adds p b s k (Offer.Imply e d) t r = at_same s (Event.Imply e) t r.after (none s _ _ refl refl refl refl)
row_adds p b s k Offer.Turn t r = at_same s Event.Turn t r.after (none s _ _ refl refl refl refl)
row_adds p b s k (Offer.Decide l) t r = at_same s (event_of s (Offer.Decide l)) t r.after (record { instances = omega arith; decisions = refl })
row_adds p b s k (Offer.Split c d) t r = at_same s (event_of s (Offer.Split c d)) t r.after (none s _ _ refl refl refl refl)
row_adds p b s k (Offer.Instance i terms) t r = at_same s (event_of s (Offer.Instance i terms)) t r.after (record { instances = refl; decisions = omega arith })
row_adds p b s k Offer.Raise t r = at_same s Event.Raise t r.after (none s _ _ refl refl refl refl)
row_adds p b s k (Offer.Answer w) t r = at_same s (Event.Answer w) t r.1 (none s _ _ refl refl refl refl)

run_adds : (p : Problem) (b : Budget) (s : State) (es : List Event) (t : State) → Run p b s es t → (t.instances ≡ s.instances + count_instances es) × (t.decisions ≡ s.decisions + count_decisions es)
run_adds p b s [] t r = let i = ap (λ (u : State). u.instances) r in let d = ap (λ (u : State). u.decisions) r in (omega (arith, i), omega (arith, d))
run_adds p b s (e ∷ es) t r =
    let step = r.1 in
    let m = step.move in
    let a = row_adds p b s step.known (carried b s step.offer) m.mid m.row in
    let i = ap (λ (u : State). u.instances) m.settles.after in
    let d = ap (λ (u : State). u.decisions) m.settles.after in
    let ei = ap instances_in step.event in
    let ed = ap decisions_in step.event in
    let rest = run_adds p b r.0 es t r.3 in
    (omega (arith, a.instances, i, ei, rest.0), omega (arith, a.decisions, d, ed, rest.1))

pub reached_counted : (p : Problem) (b : Budget) (es : List Event) (s : State) → IsReached p b es s → AreCounted es s
reached_counted p b es s h =
    let c = run_adds p b h.first es s h.run in
    let z = start_counted p h.first h.start in
    record { instances = omega (arith, c.0, z.0); decisions = omega (arith, c.1, z.1) }
