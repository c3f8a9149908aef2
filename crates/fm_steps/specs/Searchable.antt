-- What is asked of clauses that are searched, and what a run then knows of its candidate where only the last group of the menu
-- is left.
use Rattle.std.specs.Prelude.{◌≡◌, ℕ, ◌-◌, ◌<◌, ◌≤◌, ◌^◌, true, false, List, [], slice_get, Some}
use Rattle.std.specs.List.{list_all}
use Rattle.fm_base.specs.Interpretations.{names_its_sorts, reading_of}
use Rattle.fm_base.specs.Models.{sum_of_sizes}
use Rattle.fm_base.specs.Resolution.{Has}
use Rattle.fm_base.specs.declared.signature.Rank.{Rank}
use Rattle.fm_bank.specs.Sorted.{is_sorted_clause}
use Rattle.fm_bank.specs.declared.atom.Atom.{Atom}
use Rattle.fm_guide.specs.declared.event.Event.{Event}
use Rattle.fm_guide.specs.declared.event.Word.{Word}
use Rattle.fm_rounds.specs.Failing.{AreTrueThere}
use Rattle.fm_rounds.specs.Fresh.{HasFreshConstants, HasStartTerms}
use Rattle.fm_rounds.specs.Grounds.{AreTermsOf, IsGrounded, is_declared}
use Rattle.fm_rounds.specs.Rounds.{candidate, candidate_reading, representatives}
use Rattle.fm_steps.specs.Lines.{IsSorted}
use Rattle.fm_steps.specs.Menu.{conflicts_from, decisions_of, first_lemmas, menu_of, splits_of, takes_of, turns_of, units_from}
use Rattle.fm_steps.specs.Picks.{IsKnown, Known}
use Rattle.fm_steps.specs.Rows.{InstanceRow, Offer, content_at}
use Rattle.fm_steps.specs.Runs.{IsReached}
use Rattle.fm_steps.specs.Sizes.{is_refuted}
use Rattle.fm_steps.specs.State.{Budget, Problem, State}

-- ranks name sorts of the signature, no symbol has a Bool argument, clauses are well sorted, and the last symbols are the fresh
-- constants
pub record IsSearchable (p : Problem) : Type 0 where
  pub named : names_its_sorts p.sig ≡ true
  pub declared : (f : ℕ) (rank : Rank) → slice_get p.sig.ranks f ≡ Some rank → list_all is_declared rank.args ≡ true
  pub sorted : list_all (is_sorted_clause p.sig) p.clauses ≡ true
  pub fresh : HasFreshConstants p

abbrev pub SearchableAreSorted : Type 0
SearchableAreSorted = (p : Problem) → IsSearchable p → IsSorted p

-- in every state of a run the ground terms of the clauses and the fresh constants are registered, and what stands for the
-- variables of added instances are terms
abbrev pub RunsHaveStartTerms : Type 0
RunsHaveStartTerms = (p : Problem) (b : Budget) (events : List Event) (s : State) → IsSorted p → IsReached p b events s → HasStartTerms p s.held.terms

abbrev pub AddedAreTerms : Type 0
AddedAreTerms =
    (p : Problem) (b : Budget) (events : List Event) (s : State) → IsSorted p → IsReached p b events s
    → (i : ℕ × List ℕ) → Has s.added i → AreTermsOf s.held.terms i.1

-- and what the candidate is made of fits together
abbrev pub ContentsAreGrounded : Type 0
ContentsAreGrounded =
    (p : Problem) (b : Budget) (events : List Event) (s : State) (k : Known) → IsSearchable p → IsReached p b events s
    → IsKnown s k → IsGrounded (content_at p s k)

-- groups 1 to 6 of the menu are empty
pub record HasLastAlone (s : State) (k : Known) : Type 0 where
  pub conflicts : conflicts_from 0 s.trail.entries s.clauses ≡ []
  pub units : units_from 0 s.trail.entries s.clauses ≡ []
  pub takes : takes_of s ≡ []
  pub lemmas : first_lemmas s k ≡ []
  pub turns : turns_of s ≡ []
  pub decisions : decisions_of s ≡ []
  pub splits : splits_of s ≡ []

-- the offers of the last group
abbrev pub IsLastOffer : Offer → Type 0
IsLastOffer (Offer.Instance i subst) = Unit {0}
IsLastOffer (Offer.Answer Word.Sat) = Unit {0}
IsLastOffer Offer.Raise = Unit {0}
IsLastOffer o = ⊥

abbrev pub LastStandsAlone : Type 0
LastStandsAlone = (p : Problem) (s : State) (k : Known) (o : Offer) → IsLastOffer o → Has (menu_of p s k) o → HasLastAlone s k

-- then the added instances over representatives are true in the candidate, and in its tables
pub record AddedHold (p : Problem) (s : State) (k : Known) : Type 0 where
  pub truths : AreTrueThere (candidate_reading (content_at p s k)) (representatives (content_at p s k)) p.clauses s.added
  pub tables : AreTrueThere (reading_of (candidate (content_at p s k))) (representatives (content_at p s k)) p.clauses s.added

abbrev pub InstancesHold : Type 0
InstancesHold =
    (p : Problem) (b : Budget) (events : List Event) (s : State) (k : Known) → IsSearchable p → IsReached p b events s
    → IsKnown s k → s.free ≡ false → HasLastAlone s k → AddedHold p s k

-- so an instance that is offered is new, and its row is met
abbrev pub InstanceIsMet : Type 0
InstanceIsMet =
    (p : Problem) (b : Budget) (events : List Event) (s : State) (k : Known) (i : ℕ) (subst : List ℕ) → IsSearchable p → IsReached p b events s
    → IsKnown s k → Has (menu_of p s k) (Offer.Instance i subst) → s.instances < b.instances → (t : State) × InstanceRow p b s k i subst t

-- the candidate's sizes don't add up to more than the bound, where groups 1 to 6 are empty
abbrev pub SumIsWithin : Type 0
SumIsWithin =
    (p : Problem) (b : Budget) (events : List Event) (s : State) (k : Known) → IsSearchable p → IsReached p b events s
    → IsKnown s k → s.free ≡ false → HasLastAlone s k → sum_of_sizes p.sig (candidate_reading (content_at p s k)) ≤ s.bound

-- Where Answer Sat is offered they add up to the bound, in its tables too; the bound below it is false at level 0, and where there
-- is no sort the bound is 0.
pub record IsExact (p : Problem) (s : State) (k : Known) : Type 0 where
  pub sum : sum_of_sizes p.sig (candidate_reading (content_at p s k)) ≡ s.bound
  pub tables : sum_of_sizes p.sig (reading_of (candidate (content_at p s k))) ≡ s.bound
  pub below : 0 < s.bound → is_refuted s (Atom.Bound (s.bound - 1)) ≡ true
  pub none : p.sig.sorts ≡ 0 → s.bound ≡ 0

abbrev pub SatIsExact : Type 0
SatIsExact =
    (p : Problem) (b : Budget) (events : List Event) (s : State) (k : Known) → IsSearchable p → IsReached p b events s
    → IsKnown s k → s.bound < 2 ^ 64 → Has (menu_of p s k) (Offer.Answer Word.Sat) → IsExact p s k
