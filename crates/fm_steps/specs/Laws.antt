-- Laws of events, steps and runs.
use Rattle.std.specs.Prelude.{◌≢◌, List, ◌∷◌}
use Rattle.fm_base.specs.Resolution.{Has}
use Rattle.fm_guide.specs.declared.event.Event.{Event}
use Rattle.fm_guide.specs.declared.event.Word.{Word}
use Rattle.fm_steps.specs.Facts.{AreCounted, IsLawful}
use Rattle.fm_steps.specs.Menu.{menu_of}
use Rattle.fm_steps.specs.Picks.{IsKnown, Known}
use Rattle.fm_steps.specs.Rows.{Offer}
use Rattle.fm_steps.specs.Runs.{IsReached, IsStart, Move, Run, Step, carried, event_of}
use Rattle.fm_steps.specs.State.{Budget, Problem, State}

-- the start has it
abbrev pub HasAtStart : (Problem → State → Type 0) → Type 0
HasAtStart Fact = (p : Problem) (s : State) → IsStart p s → Fact p s

-- each event whose row is met in a lawful state, offered or not, leaves it
abbrev pub IsLeftByMoves : (Problem → State → Type 0) → Type 0
IsLeftByMoves Fact =
    (p : Problem) (b : Budget) (s : State) (k : Known) (o : Offer) (t : State)
    → IsLawful p s → Move p b s k o t → Fact p t

-- each step from a lawful state that has it leaves it
abbrev pub IsKeptBySteps : (State → Type 0) → Type 0
IsKeptBySteps Fact =
    (p : Problem) (b : Budget) (s : State) (e : Event) (t : State)
    → IsLawful p s → Fact s → Step p b s e t → Fact t

-- every state of a run has it
abbrev pub HoldsInRuns : (Problem → State → Type 0) → Type 0
HoldsInRuns Fact =
    (p : Problem) (b : Budget) (events : List Event) (s : State)
    → IsReached p b events s → Fact p s

-- no run has an event that isn't that of an offer of the menu, whatever the tests
abbrev pub WrongEventsEndNoRun : Type 0
WrongEventsEndNoRun =
    (p : Problem) (b : Budget) (s : State) (e : Event) (es : List Event) (t : State)
    → ((k : Known) (o : Offer) → IsKnown s k → Has (menu_of p s k) o → e ≢ event_of s (carried b s o))
    → Run p b s (e ∷ es) t → ⊥

-- and none goes on after an answer
abbrev pub AnswersEndRuns : Type 0
AnswersEndRuns = (p : Problem) (b : Budget) (s : State) (w : Word) (e : Event) (es : List Event) (t : State) → Run p b s (Event.Answer w ∷ (e ∷ es)) t → ⊥

-- the counts of every state of a run are those of its events
abbrev pub RunsAreCounted : Type 0
RunsAreCounted = (p : Problem) (b : Budget) (events : List Event) (s : State) → IsReached p b events s → AreCounted events s

-- in each state there are tests that say what the two readers of equalities know
abbrev pub EachIsKnown : Type 0
EachIsKnown = (s : State) → (k : Known) × IsKnown s k

-- each move leaves it
abbrev pub IsKeptByMoves : (Problem → State → Type 0) → Type 0
IsKeptByMoves Fact = (p : Problem) (b : Budget) (s : State) (k : Known) (o : Offer) (t : State) → Fact p s → Move p b s k o t → Fact p t
