-- What is offered in a run is met: Raise; and a lemma that is false or unit isn't in the list.
use Rattle.std.specs.Prelude.{◌≡◌, ℕ, ◌+◌, ◌-◌, true, false, List, length, slice_get, Some}
use Rattle.fm_base.specs.Resolution.{AreDistinct, Has}
use Rattle.fm_base.specs.declared.ids.Reader.{Reader}
use Rattle.fm_bank.specs.declared.atom.Atom.{Atom}
use Rattle.fm_bank.specs.declared.literal.Literal.{Literal}
use Rattle.fm_bank.specs.Clauses.{lits_true}
use Rattle.fm_bank.specs.declared.clause.Clause.{Clause as FirstOrderClause}
use Rattle.fm_base.specs.Models.{IsElements}
use Rattle.fm_rounds.specs.Failing.{named_of}
use Rattle.fm_rounds.specs.Rounds.{candidate_reading, representatives}
use Rattle.fm_guide.specs.declared.event.Event.{Event}
use Rattle.fm_guide.specs.declared.event.Word.{Word}
use Rattle.fm_sat.specs.Store.{HasNoFalse, HasNoUnit}
use Rattle.fm_steps.specs.Facts.{AtomsAreKnown}
use Rattle.fm_steps.specs.Lemmas.{Due, IsDue, IsInClauses, IsUnitLemma, are_known, is_false_lemma}
use Rattle.fm_steps.specs.Lines.{IsSorted}
use Rattle.fm_steps.specs.Menu.{menu_of}
use Rattle.fm_steps.specs.Picks.{IsKnown, Known}
use Rattle.fm_steps.specs.Rows.{AnswerRow, Offer, RaiseRow, content_at}
use Rattle.fm_steps.specs.Runs.{IsReached}
use Rattle.fm_steps.specs.Sizes.{card, holds}
use Rattle.fm_steps.specs.State.{Budget, Clause, Pick, Problem, State, back_to, know}

-- the test of a sort is of a true bound
abbrev pub PicksHold : State → Type 0
PicksHold s = (u : ℕ) (pick : Pick) → slice_get s.picks u ≡ Some (Some pick) → holds s true (card u (length pick.terms - 1)) ≡ true

-- the state behind Raise, whose row is met where it is offered
abbrev pub raised : State → State
raised s = know (Atom.Bound (s.bound + 1)) (record (back_to 0 s) { bound = s.bound + 1; free = false })

abbrev pub RaiseIsMet : Type 0
RaiseIsMet =
    (p : Problem) (b : Budget) (events : List Event) (s : State) (k : Known) → IsSorted p → IsReached p b events s
    → Has (menu_of p s k) Offer.Raise → RaiseRow s k (raised s)

-- where no clause is false a false lemma isn't in the list
abbrev pub FalseLemmasAreNew : Type 0
FalseLemmasAreNew = (s : State) (ls : List Literal) → HasNoFalse s.clauses s.trail.entries → is_false_lemma s ls ≡ true → IsInClauses s ls → ⊥

-- and where no clause is unit a unit lemma isn't, if no clause has a literal twice
abbrev pub AreClausesDistinct : State → Type 0
AreClausesDistinct s = (i : ℕ) (c : Clause) → slice_get s.clauses i ≡ Some c → AreDistinct c

abbrev pub UnitLemmasAreNew : Type 0
UnitLemmasAreNew =
    (s : State) (ls : List Literal) (l : Literal) → AtomsAreKnown s → AreClausesDistinct s → HasNoUnit s.clauses s.trail.entries
    → IsUnitLemma s ls l → IsInClauses s ls → ⊥

-- so it isn't in a run
abbrev pub UnitLemmasAreNewInRuns : Type 0
UnitLemmasAreNewInRuns =
    (p : Problem) (b : Budget) (events : List Event) (s : State) (ls : List Literal) (l : Literal) → IsReached p b events s
    → HasNoUnit s.clauses s.trail.entries → IsUnitLemma s ls l → IsInClauses s ls → ⊥

-- In a run a lemma that is offered is due: there is one, with each literal once, and each that is due has known atoms and is
-- false, or unit for Imply.
pub record IsOfferedLemma (s : State) (k : Known) (r : Reader) (d : Due) (Asks : List Literal → Type 0) : Type 0 where
  pub lits : List Literal
  pub due : IsDue s k r d lits
  pub distinct : AreDistinct lits
  pub known : (ls : List Literal) → IsDue s k r d ls → are_known s ls ≡ true
  pub asks : (ls : List Literal) → IsDue s k r d ls → Asks ls

abbrev pub LemmaIsDue : Type 0
LemmaIsDue =
    (p : Problem) (b : Budget) (events : List Event) (s : State) (k : Known) (r : Reader) (d : Due) → IsSorted p → IsReached p b events s
    → IsKnown s k → Has (menu_of p s k) (Offer.Lemma r d) → IsOfferedLemma s k r d (λ ls. is_false_lemma s ls ≡ true)

abbrev pub ImplyIsDue : Type 0
ImplyIsDue =
    (p : Problem) (b : Budget) (events : List Event) (s : State) (k : Known) (r : Reader) (d : Due) → IsSorted p → IsReached p b events s
    → IsKnown s k → Has (menu_of p s k) (Offer.Imply r d) → IsOfferedLemma s k r d (λ ls. (l : Literal) × IsUnitLemma s ls l)

-- Answer Sat is met where it is offered, and an instance that is offered fails in the candidate.
abbrev pub SatIsMet : Type 0
SatIsMet = (p : Problem) (b : Budget) (s : State) (k : Known) → Has (menu_of p s k) (Offer.Answer Word.Sat) → AnswerRow p b s k Word.Sat

pub record FailsThere (p : Problem) (s : State) (k : Known) (i : ℕ) (subst : List ℕ) : Type 0 where
  pub bounded : s.free ≡ false
  pub clause : FirstOrderClause
  pub there : slice_get p.clauses i ≡ Some clause
  pub elements : List ℕ
  pub within : IsElements (candidate_reading (content_at p s k)) clause.vars elements
  pub named : named_of (representatives (content_at p s k)) clause.vars elements ≡ subst
  pub false_there : lits_true (candidate_reading (content_at p s k)) elements clause.lits ≡ false

abbrev pub InstanceFails : Type 0
InstanceFails = (p : Problem) (s : State) (k : Known) (i : ℕ) (subst : List ℕ) → Has (menu_of p s k) (Offer.Instance i subst) → FailsThere p s k i subst
