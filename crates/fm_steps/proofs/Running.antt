-- Every state of a run has what the start has and each step keeps.
use Rattle.std.proofs.Common.{◌≡◌, ◌≢◌, List, [], ◌∷◌, refl, sym, subst}
use Rattle.fm_base.specs.Resolution.{Has}
use Rattle.fm_guide.specs.declared.event.Event.{Event}
use Rattle.fm_guide.specs.declared.event.Word.{Word}
use Rattle.fm_steps.specs.Menu.{menu_of}
use Rattle.fm_steps.specs.Facts.{IsLawful, PicksAreKnown, SizesAreAssumed}
use Rattle.fm_steps.specs.Picks.{IsKnown, Known}
use Rattle.fm_steps.specs.Rows.{Offer}
use Rattle.fm_steps.specs.Runs.{IsReached, IsStart, Move, Run, Step, carried, event_of}
use Rattle.fm_steps.specs.State.{Budget, Problem, State}
use Rattle.fm_steps.proofs.Explained.{move_explained}
use Rattle.fm_steps.proofs.Freely.{step_assumed}
use Rattle.fm_steps.proofs.Guarded.{move_guarded}
use Rattle.fm_steps.proofs.Heads.{move_heads, move_instances}
use Rattle.fm_steps.proofs.Known.{move_known, settled_picks}
use Rattle.fm_steps.proofs.Lists.{Has-get}
use Rattle.fm_steps.proofs.Smaller.{move_smaller}
use Rattle.fm_steps.proofs.Starts.{start_assumed, start_lawful}

pub move_lawful : (p : Problem) (b : Budget) (s : State) (k : Known) (o : Offer) (t : State) → IsLawful p s → Move p b s k o t → IsLawful p t
move_lawful p b s k o t h m = record {
  trail = move_explained p b s k o t h.atoms h.trail m;
  heads = move_heads p b s k o t h.heads m;
  instances = move_instances p b s k o t h.instances m;
  atoms = move_known p b s k o t h.atoms h.trail m;
  bounds = move_smaller p.sig.sorts p b s k o t h.bounds m;
  guards = move_guarded p b s k o t h.atoms h.trail h.guards m;
}

pub move_picks : (p : Problem) (b : Budget) (s : State) (k : Known) (o : Offer) (t : State) → IsLawful p s → Move p b s k o t → PicksAreKnown t
move_picks p b s k o t h m = settled_picks m.mid t m.settles

pub record IsGood (p : Problem) (s : State) : Type 0 where
  pub lawful : IsLawful p s
  pub sizes : SizesAreAssumed s
  pub picks : PicksAreKnown s

pub step_good : (p : Problem) (b : Budget) (s : State) (e : Event) (t : State) → IsGood p s → Step p b s e t → IsGood p t
step_good p b s e t h step = record {
  lawful = move_lawful p b s step.known (carried b s step.offer) t h.lawful step.move;
  sizes = step_assumed p b s e t h.lawful h.sizes step;
  picks = move_picks p b s step.known (carried b s step.offer) t h.lawful step.move;
}

pub begun_good : (p : Problem) (s : State) → IsStart p s → IsGood p s
begun_good p s st = record { lawful = start_lawful p s st; sizes = start_assumed p s st; picks = settled_picks _ s st }

run_good : (p : Problem) (b : Budget) (s : State) (es : List Event) (t : State) → IsGood p s → Run p b s es t → IsGood p t
run_good p b s [] t h r = subst (IsGood p) (sym r) h
run_good p b s (e ∷ es) t h r =
    run_good p b r.0 es t (step_good p b s e r.0 h r.1) r.3

pub reached_good : (p : Problem) (b : Budget) (events : List Event) (s : State) → IsReached p b events s → IsGood p s
reached_good p b events s h =
    run_good p b h.first events s (begun_good p h.first h.start) h.run

-- what is carried out is offered
pub offered_only : (p : Problem) (b : Budget) (s : State) (e : Event) (es : List Event) (t : State) → ((k : Known) (o : Offer) → IsKnown s k → Has (menu_of p s k) o → e ≢ event_of s (carried b s o)) → Run p b s (e ∷ es) t → ⊥
offered_only p b s e es t wrong r = let step = r.1 in wrong step.known step.offer step.is_known (Has-get (menu_of p s step.known) step.place step.offer step.there) step.event

pub answered_last : (p : Problem) (b : Budget) (s : State) (w : Word) (e : Event) (es : List Event) (t : State) → Run p b s (Event.Answer w ∷ (e ∷ es)) t → ⊥
answered_last p b s w e es t r = let none : e ∷ es ≡ [] = r.2 (w, refl) in absurd (cc none)
