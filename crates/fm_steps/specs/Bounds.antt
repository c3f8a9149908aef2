-- What runs have beside: the lemmas of the start stay, a decision stands on no empty sort and on no smaller bound, and in the
-- bounded phase the bound is the first decision.
use Rattle.std.specs.Prelude.{◌≡◌, ◌⊎◌, ◌↔◌, ◌≤◌, ◌+◌, ℕ, suc, ◌<◌, true, false, List, [], ◌∷◌, ◌++◌, map, slice_get, Some}
use Rattle.std.specs.List.{range_with_len}
use Rattle.fm_base.specs.Resolution.{Has}
use Rattle.fm_bank.specs.Interning.{find_atom, first_places, lit_in}
use Rattle.fm_bank.specs.Instances.{ground_literals, is_substitution}
use Rattle.fm_bank.specs.declared.atom.Atom.{Atom}
use Rattle.fm_bank.specs.declared.clause.Clause.{Clause as FirstOrderClause}
use Rattle.fm_bank.specs.declared.literal.Literal.{Literal}
use Rattle.fm_guide.specs.declared.event.Event.{Event}
use Rattle.fm_trail.specs.Trail.{level_of}
use Rattle.fm_trail.specs.declared.entry.Entry.{Entry}
use Rattle.fm_trail.specs.declared.entry.Why.{Why}
use Rattle.fm_steps.specs.Lemmas.{are_known, is_known}
use Rattle.fm_steps.specs.Lines.{IsSorted}
use Rattle.fm_steps.specs.Runs.{IsReached}
use Rattle.fm_steps.specs.Sizes.{card, is_refuted, is_unvalued, lit}
use Rattle.fm_steps.specs.State.{Budget, Problem, State}

-- an entry of level 0 is implied
abbrev pub ZeroIsImplied : State → Type 0
ZeroIsImplied s = (i : ℕ) (e : Entry) → slice_get s.trail.entries i ≡ Some e → e.level ≡ 0 → (n : ℕ) × (e.why ≡ Why.Clause n)

-- the clause of these literals stands in the list
pub record StandsIn (s : State) (ls : List Literal) : Type 0 where
  pub known : are_known s ls ≡ true
  pub has : Has s.clauses (map (lit_in s.held.atoms) ls)

-- the lemmas of the start: no sort is empty, and the sum of all sizes isn't below the number of sorts
abbrev pub not_empty : ℕ → List Literal
not_empty u = lit false (card u 0) ∷ []

abbrev pub not_fewer : ℕ → List Literal
not_fewer m = map (λ u. lit true (card u 0)) (range_with_len 0 (suc m)) ++ lit false (Atom.Bound m) ∷ []

-- they stay in the list
pub record StartStays (p : Problem) (s : State) : Type 0 where
  pub elements : (u : ℕ) → u < p.sig.sorts → StandsIn s (not_empty u)
  pub sum : (m : ℕ) → p.sig.sorts ≡ suc m → StandsIn s (not_fewer m)

-- where a decision stands they are used up: each sort has an element at level 0, and the bound below the number of sorts is
-- false there
pub record AreNotSmaller (p : Problem) (s : State) : Type 0 where
  pub elements : (u : ℕ) → u < p.sig.sorts → is_refuted s (card u 0) ≡ true
  pub sum : (m : ℕ) → p.sig.sorts ≡ suc m → is_refuted s (Atom.Bound m) ≡ true

abbrev pub DecisionsAreLarge : Problem → State → Type 0
DecisionsAreLarge p s = 0 < level_of s.trail.entries → AreNotSmaller p s

-- the entry makes the bound true
pub record DecidesBound (s : State) (e : Entry) : Type 0 where
  pub positive : e.lit.positive ≡ true
  pub bound : find_atom s.held.atoms (Atom.Bound s.bound) ≡ Some e.lit.atom.0

-- bounded: the first decision is that of the bound
abbrev pub BoundIsFirst : State → Type 0
BoundIsFirst s =
    s.free ≡ false → (i : ℕ) (e : Entry) → slice_get s.trail.entries i ≡ Some e → e.why ≡ Why.Decision → e.level ≡ 1
    → DecidesBound s e

-- the bound is true as the first decision
pub record BoundIsDecided (s : State) : Type 0 where
  pub place : ℕ
  pub entry : Entry
  pub at : slice_get s.trail.entries place ≡ Some entry
  pub why : entry.why ≡ Why.Decision
  pub first : entry.level ≡ 1
  pub decides : DecidesBound s entry

-- so bounded it has no value, or is false at level 0, or is that decision
abbrev pub BoundIsOpen : State → Type 0
BoundIsOpen s = s.free ≡ false → (is_unvalued s (Atom.Bound s.bound) ≡ true) ⊎ ((is_refuted s (Atom.Bound s.bound) ≡ true) ⊎ BoundIsDecided s)

-- the known atoms that bound the size of a sort are those from 0 up to one, which isn't above the bound
pub record IsInRow (s : State) (u : ℕ) : Type 0 where
  pub top : ℕ
  pub low : top ≤ s.bound
  pub known : (k : ℕ) → (is_known s (card u k) ≡ true) ↔ (k ≤ top)

-- and those that bound the sum are from one below the number of sorts, or from 0, up to the present bound
pub record SizesAreInRow (p : Problem) (s : State) : Type 0 where
  pub cards : (u : ℕ) → u < p.sig.sorts → IsInRow s u
  pub bounds : (j : ℕ) → (is_known s (Atom.Bound j) ≡ true) ↔ ((p.sig.sorts ≤ j + 1) × (j ≤ s.bound))
  pub least : p.sig.sorts ≤ s.bound

-- An added instance is of a clause, over terms of its variables' sorts, and its clause stands in the list.
pub record IsAdded (p : Problem) (s : State) (i : ℕ) (subst : List ℕ) : Type 0 where
  pub clause : FirstOrderClause
  pub there : slice_get p.clauses i ≡ Some clause
  pub typed : is_substitution p.sig s.held.terms clause.vars subst ≡ true
  pub literals : List Literal
  pub grounded : ground_literals s.held.terms subst clause.lits ≡ Some literals
  pub stands : StandsIn s (first_places [] literals)

abbrev pub AddedStand : Problem → State → Type 0
AddedStand p s = (i : ℕ) (subst : List ℕ) → Has s.added (i, subst) → IsAdded p s i subst

-- in every state of a run
abbrev pub InstancesStand : Type 0
InstancesStand = (p : Problem) (b : Budget) (events : List Event) (s : State) → IsSorted p → IsReached p b events s → AddedStand p s
