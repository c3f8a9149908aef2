-- Steps and runs.
use Rattle.std.specs.Prelude.{◌≡◌, ℕ, ◌==◌, if◌then◌else◌, List, [], ◌∷◌, ◌++◌, slice_get, Some, map}
use Rattle.fm_base.specs.declared.ids.TermId.{TermId}
use Rattle.fm_bank.specs.Interning.{lit_in}
use Rattle.fm_guide.specs.declared.event.Event.{Event}
use Rattle.fm_guide.specs.declared.event.Word.{Word}
use Rattle.fm_steps.specs.Menu.{menu_of}
use Rattle.fm_steps.specs.Picks.{IsKnown, Known, Settles}
use Rattle.fm_steps.specs.Rows.{Offer, Row}
use Rattle.fm_steps.specs.Start.{first_state}
use Rattle.fm_steps.specs.State.{Budget, Problem, State, know}

abbrev pub term_id : ℕ → TermId
term_id n = record { 0 = n }

-- the event that is told
abbrev pub event_of : State → Offer → Event
event_of s (Offer.Learn n) = Event.Learn n
event_of s (Offer.Unit' n) = Event.Unit n
event_of s (Offer.Take r) = Event.Take r
event_of s (Offer.Lemma r d) = Event.Lemma r
event_of s (Offer.Imply r d) = Event.Imply r
event_of s Offer.Turn = Event.Turn
event_of s (Offer.Decide l) = Event.Decide (lit_in (know l.atom s).held.atoms l)
event_of s (Offer.Split a b) = Event.Split (term_id a) (term_id b)
event_of s (Offer.Instance i subst) = Event.Instance i (map term_id subst)
event_of s Offer.Raise = Event.Raise
event_of s (Offer.Answer w) = Event.Answer w

-- an offer that the budget doesn't allow is answered by unknown
abbrev pub carried : Budget → State → Offer → Offer
carried b s (Offer.Decide l) = if s.decisions == b.decisions then Offer.Answer Word.Unknown else Offer.Decide l
carried b s (Offer.Instance i subst) = if s.instances == b.instances then Offer.Answer Word.Unknown else Offer.Instance i subst
carried b s (Offer.Learn n) = Offer.Learn n
carried b s (Offer.Unit' n) = Offer.Unit' n
carried b s (Offer.Take r) = Offer.Take r
carried b s (Offer.Lemma r d) = Offer.Lemma r d
carried b s (Offer.Imply r d) = Offer.Imply r d
carried b s Offer.Turn = Offer.Turn
carried b s (Offer.Split a c) = Offer.Split a c
carried b s Offer.Raise = Offer.Raise
carried b s (Offer.Answer w) = Offer.Answer w

-- an event whose row is met, whether it is offered or not
pub record Move (p : Problem) (b : Budget) (s : State) (k : Known) (o : Offer) (t : State) : Type 0 where
  pub mid : State
  pub row : Row p b s k o mid
  pub settles : Settles mid t

-- one event that the menu offers and whose row is met
pub record Step (p : Problem) (b : Budget) (s : State) (e : Event) (t : State) : Type 0 where
  pub known : Known
  pub is_known : IsKnown s known
  pub place : ℕ
  pub offer : Offer
  pub there : slice_get (menu_of p s known) place ≡ Some offer
  pub move : Move p b s known (carried b s offer) t
  pub event : e ≡ event_of s (carried b s offer)

-- steps one after the other; an answer is the last
abbrev pub IsAnswer : Event → Type 0
IsAnswer e = (w : Word) × (e ≡ Event.Answer w)

abbrev pub Run : Problem → Budget → State → List Event → State → Type 0
Run p b s [] t = t ≡ s
Run p b s (e ∷ es) t = (mid : State) × Step p b s e mid × (IsAnswer e → es ≡ []) × Run p b mid es t

-- the start, its picks chosen
abbrev pub IsStart : Problem → State → Type 0
IsStart p s = Settles (first_state p) s

-- a state of a run
pub record IsReached (p : Problem) (b : Budget) (events : List Event) (s : State) : Type 0 where
  pub first : State
  pub start : IsStart p first
  pub run : Run p b first events s

-- the run ends with this answer
pub record IsRun (p : Problem) (b : Budget) (events : List Event) (w : Word) (last : State) : Type 0 where
  pub front : List Event
  pub ends : events ≡ front ++ Event.Answer w ∷ []
  pub run : IsReached p b events last
