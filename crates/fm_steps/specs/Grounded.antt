-- What the test of Congruence is: an equivalence that keeps types, and a congruence on all registered terms.
use Rattle.std.specs.Prelude.{◌≡◌, ℕ, Bool, true, List, slice_get, Some}
use Rattle.fm_bank.specs.Closure.{are_related, object}
use Rattle.fm_bank.specs.Terms.{Term, are_terms, type_of}
use Rattle.fm_guide.specs.declared.event.Event.{Event}
use Rattle.fm_steps.specs.Lines.{IsSorted}
use Rattle.fm_steps.specs.Picks.{IsKnown, Known}
use Rattle.fm_steps.specs.Runs.{IsReached}
use Rattle.fm_steps.specs.State.{Budget, Problem, State}

pub record IsTypedCongruence (s : State) (same : ℕ → ℕ → Bool) : Type 0 where
  pub terms : are_terms s.held.sig s.held.terms ≡ true
  pub reflexive : (x : ℕ) → same x x ≡ true
  pub symmetric : (x y : ℕ) → same x y ≡ true → same y x ≡ true
  pub transitive : (x y z : ℕ) → same x y ≡ true → same y z ≡ true → same x z ≡ true
  pub congruent : (a b : ℕ) (t u : Term) → slice_get s.held.terms a ≡ Some t → slice_get s.held.terms b ≡ Some u → t.symbol ≡ u.symbol
      → are_related same t.args u.args ≡ true → same (object a) (object b) ≡ true
  pub typed : (a b : ℕ) → same (object a) (object b) ≡ true → type_of s.held.sig s.held.terms a ≡ type_of s.held.sig s.held.terms b

-- in every state of a run
abbrev pub TestsAreTyped : Type 0
TestsAreTyped =
    (p : Problem) (b : Budget) (events : List Event) (s : State) (k : Known) → IsSorted p → IsReached p b events s
    → IsKnown s k → IsTypedCongruence s k.congruence.same
