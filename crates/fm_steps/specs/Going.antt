-- In a run there is always something to offer, and each offer is a step.
use Rattle.std.specs.Prelude.{◌≡◌, ◌≤◌, ◌+◌, List, slice_get, Some}
use Rattle.fm_base.specs.Resolution.{Has}
use Rattle.fm_guide.specs.declared.event.Event.{Event}
use Rattle.fm_steps.specs.Menu.{menu_of}
use Rattle.fm_steps.specs.Picks.{IsKnown, Known, Settles}
use Rattle.fm_steps.specs.Rows.{Offer, Row}
use Rattle.fm_steps.specs.Runs.{IsReached, IsStart, Step, carried, event_of}
use Rattle.fm_steps.specs.Searchable.{IsSearchable}
use Rattle.fm_steps.specs.State.{Budget, Problem, State}

abbrev pub MenusAreNotEmpty : Type 0
MenusAreNotEmpty = (p : Problem) (s : State) (k : Known) → (o : Offer) × (slice_get (menu_of p s k) 0 ≡ Some o)

-- no count passes its budget
pub record IsWithinBudget (b : Budget) (s : State) : Type 0 where
  pub instances : s.instances ≤ b.instances
  pub decisions : s.decisions ≤ b.decisions

abbrev pub RunsAreWithinBudget : Type 0
RunsAreWithinBudget = (p : Problem) (b : Budget) (events : List Event) (s : State) → IsReached p b events s → IsWithinBudget b s

-- the row of what is carried out for an offer is met
abbrev pub StepsGoOn : Type 0
StepsGoOn =
    (p : Problem) (b : Budget) (events : List Event) (s : State) (k : Known) (o : Offer) → IsSearchable p → IsReached p b events s
    → IsKnown s k → Has (menu_of p s k) o → (t : State) × Row p b s k (carried b s o) t

-- the tests can be chosen in each state
abbrev pub StatesSettle : Type 0
StatesSettle = (mid : State) → (t : State) × Settles mid t

-- so a run can begin, and each offer is a step
abbrev pub RunsBegin : Type 0
RunsBegin = (p : Problem) → (s : State) × IsStart p s

abbrev pub StepsExist : Type 0
StepsExist =
    (p : Problem) (b : Budget) (events : List Event) (s : State) (k : Known) (o : Offer) → IsSearchable p → IsReached p b events s
    → IsKnown s k → Has (menu_of p s k) o → (t : State) × Step p b s (event_of s (carried b s o)) t

-- each bound but the first has taken a decision, so the bound can be written where the budget lets it
abbrev pub BoundsAreCounted : Type 0
BoundsAreCounted = (p : Problem) (b : Budget) (events : List Event) (s : State) → IsReached p b events s → s.bound ≤ p.sig.sorts + s.decisions
