-- What is asked where only the last group of the menu is left, and what is found there.
use Rattle.std.specs.Prelude.{◌≡◌, ℕ, true, false, List, Option, None, Some}
use Rattle.fm_base.specs.Interpretations.{is_fit, reading_of}
use Rattle.fm_base.specs.declared.ids.Reader.{Reader}
use Rattle.fm_base.specs.declared.interp.Interp.{Interp}
use Rattle.fm_bank.specs.Clauses.{Satisfies}
use Rattle.fm_bank.specs.Interning.{Held}
use Rattle.fm_bank.specs.Terms.{numbers}
use Rattle.fm_bank.specs.Tests.{Tests}
use Rattle.fm_build.specs.Parts.{IsGraphOver}
use Rattle.fm_candidate.specs.declared.found.Found.{Found}
use Rattle.fm_cong.specs.Held.{Held as Graph}
use Rattle.fm_cong.specs.Tests.{AreTestsOf}
use Rattle.fm_guide.specs.declared.event.Event.{Event}
use Rattle.fm_rounds.specs.Rounds.{Content, candidate}
use Rattle.fm_rounds.specs.declared.answers.Failing.{Failing}
use Rattle.fm_steps.specs.Content.{AreTestsBy}
use Rattle.fm_steps.specs.Menu.{failing_at}
use Rattle.fm_steps.specs.Picks.{IsKnown, Known, read_literals}
use Rattle.fm_steps.specs.Runs.{IsReached}
use Rattle.fm_steps.specs.Searchable.{HasLastAlone}
use Rattle.fm_steps.specs.State.{Budget, Problem, State}

-- These are parts of a bounded state of a run, whatever its budget and its events: its terms and atoms, its added instances, and
-- the graph of what Congruence has read there. By all tests only the last group of its menu is left.
pub record IsLast (p : Problem) (held : Held) (g : Graph) (added : List (ℕ × List ℕ)) : Type 0 where
  pub state : State
  pub budget : Budget
  pub events : List Event
  pub reached : IsReached p budget events state
  pub held_is : state.held ≡ held
  pub added_is : state.added ≡ added
  pub bounded : state.free ≡ false
  pub alone : (k : Known) → IsKnown state k → HasLastAlone state k
  pub tests : (t : Tests) → AreTestsOf g t → AreTestsBy state.held (read_literals Reader.Congruence state) t
  pub over : IsGraphOver held g

-- what an interpretation and the first failing instance come to
abbrev pub outcome_of : Interp → Option Failing → Found
outcome_of i None = Found.Model i
outcome_of i (Some f) = Found.Instance f.clause f.terms

-- the tables of the candidate, where no instance is false in it, and they are a model of the clauses; else the first one that
-- is false
abbrev pub IsFound : Problem → Content → Found → Type 0
IsFound p c (Found.Model i) = (failing_at p c ≡ None) × (i ≡ candidate c) × (is_fit p.sig i ≡ true) × Satisfies (reading_of i) p.clauses
IsFound p c (Found.Instance k ts) = failing_at p c ≡ Some (k, numbers ts)
