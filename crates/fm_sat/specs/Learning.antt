-- Learning from a false clause, by the first unique implication point (Marques-Silva and Sakallah; Zhang, Madigan,
-- Moskewicz and Malik). Clauses are sets: order and repeats mean nothing.
use Rattle.std.specs.Prelude.{◌≡◌, ◌≢◌, ℕ, zero, suc, ◌<◌, ◌≤◌, ◌⊎◌, true, List, [], ◌∷◌, take, slice_get, Some}
use Rattle.fm_base.specs.declared.ids.Lit.{Lit}
use Rattle.fm_base.specs.Resolution.{Chain, Has, SameSet, Resolves, opposite}
use Rattle.fm_trail.specs.declared.entry.Entry.{Entry}
use Rattle.fm_trail.specs.declared.entry.Why.{Why}
use Rattle.fm_trail.specs.Trail.{AreLevelled, HasOneEntry, are_false, is_false, level_on, place_of}

abbrev pub Clauses : Type 0
Clauses = List (List Lit)

-- the literals that are resolved on, each with the number of the other clause
abbrev pub Steps : Type 0
Steps = List (Lit × ℕ)

-- the clause is stored, has the literal, and all its other literals are false by earlier entries
pub record IsReason (cs : Clauses) (before : List Entry) (l : Lit) (c : ℕ) : Type 0 where
  pub clause : List Lit
  pub stored : slice_get cs c ≡ Some clause
  pub has : Has clause l
  pub others : (k : Lit) → Has clause k → k ≢ l → is_false before k ≡ true

-- the store explains the trail: the reason of each implied entry is such a clause
abbrev pub Explains : Clauses → List Entry → Type 0
Explains cs es = (i : ℕ) (e : Entry) (c : ℕ) → slice_get es i ≡ Some e → e.why ≡ Why.Clause c → IsReason cs (take i es) e.lit c

-- a trail, and a store that explains it
pub record IsExplained (cs : Clauses) (es : List Entry) : Type 0 where
  pub levels : AreLevelled 0 es
  pub once : HasOneEntry es
  pub explained : Explains cs es

-- the entry of the first literal's atom isn't after that of the second's
abbrev pub IsNoLater : List Entry → Lit → Lit → Type 0
IsNoLater es k l = (i j : ℕ) → place_of es k.atom ≡ Some i → place_of es l.atom ≡ Some j → i ≤ j

-- of the clause's literals of the highest level, l has the latest entry
pub record IsLatest (es : List Entry) (now : List Lit) (l : Lit) : Type 0 where
  pub highest : (k : Lit) → Has now k → level_on es k ≤ level_on es l
  pub latest : (k : Lit) → Has now k → level_on es k ≡ level_on es l → IsNoLater es k l

-- l is resolved with the reason of its entry, the clause number c, and this leaves next
pub record IsBackward (cs : Clauses) (es : List Entry) (now : List Lit) (l : Lit) (c : ℕ) (next : List Lit) : Type 0 where
  pub place : ℕ
  pub entry : Entry
  pub stands : place_of es l.atom ≡ Some place
  pub at : slice_get es place ≡ Some entry
  pub why : entry.why ≡ Why.Clause c
  pub reason : List Lit
  pub stored : slice_get cs c ≡ Some reason
  pub resolves : Resolves opposite now l reason next

-- Besides l at least this many literals of the clause have its level. One is enough to be told.
abbrev pub HasBeside : ℕ → List Entry → List Lit → Lit → Type 0
HasBeside zero es now l = Unit {0}
HasBeside (suc n) es now l = (k : Lit) × Has now k × (k ≢ l) × (level_on es k ≡ level_on es l)

-- one step of the rule
pub record IsStep (keep : ℕ) (cs : Clauses) (es : List Entry) (now : List Lit) (l : Lit) (c : ℕ) (next : List Lit) : Type 0 where
  pub beside : HasBeside keep es now l
  pub latest : IsLatest es now l
  pub backward : IsBackward cs es now l c next

-- While more than `keep` literals of the clause so far have its highest level, the one whose entry is the latest is
-- resolved with the reason of that entry. `keep` is 0 or 1.
abbrev pub Derives : ℕ → Clauses → List Entry → List Lit → Steps → List Lit → Type 0
Derives keep cs es now [] end = SameSet now end
Derives keep cs es now (s ∷ ss) end = (next : List Lit) × IsStep keep cs es now s.0 s.1 next × Derives keep cs es next ss end

-- l alone has the highest level of the clause
pub record StandsAlone (es : List Entry) (c : List Lit) (l : Lit) : Type 0 where
  pub has : Has c l
  pub above : (k : Lit) → Has c k → k ≢ l → level_on es k < level_on es l

-- the highest level of the clause's literals other than l, or 0
pub record IsHighestBeside (es : List Entry) (c : List Lit) (l : Lit) (level : ℕ) : Type 0 where
  pub bound : (k : Lit) → Has c k → k ≢ l → level_on es k ≤ level
  pub met : (level ≡ 0) ⊎ ((k : Lit) × Has c k × (k ≢ l) × (level_on es k ≡ level))

-- What a clause that is false on the trail makes of it: after going back to this level, which is lower than the
-- literal's, the clause is unit by the literal.
pub record IsAsserting (es : List Entry) (c : List Lit) (l : Lit) (level : ℕ) : Type 0 where
  pub falsified : are_false es c ≡ true
  pub alone : StandsAlone es c l
  pub highest : IsHighestBeside es c l level
  pub lower : level < level_on es l

-- what is learnt from the clause: the rule ends with these literals, and l alone has their highest level
abbrev pub LearntBy : Clauses → List Entry → ℕ → Steps → List Lit → Type 0
LearntBy cs es n steps lits = (start : List Lit) × (slice_get cs n ≡ Some start) × Derives 1 cs es start steps lits

-- a clause that is false, with a literal above level 0
pub record IsConflict (cs : Clauses) (es : List Entry) (n : ℕ) : Type 0 where
  pub clause : List Lit
  pub stored : slice_get cs n ≡ Some clause
  pub falsified : are_false es clause ≡ true
  pub above : (k : Lit) × Has clause k × (0 < level_on es k)

-- a clause that is false at level 0
pub record IsRefuted (cs : Clauses) (es : List Entry) (n : ℕ) : Type 0 where
  pub clause : List Lit
  pub stored : slice_get cs n ≡ Some clause
  pub falsified : are_false es clause ≡ true
  pub zero_level : (k : Lit) → Has clause k → level_on es k ≡ 0

-- an entry of level 0
abbrev pub IsZeroEntry : List Entry → ℕ → Type 0
IsZeroEntry es p = (e : Entry) × (slice_get es p ≡ Some e) × (e.level ≡ 0)

-- the chain from the stored clause gives this clause
abbrev pub IsChainFrom : Clauses → ℕ → Steps → List Lit → Type 0
IsChainFrom cs n steps end = (start : List Lit) × (slice_get cs n ≡ Some start) × Chain opposite cs start steps end

-- the chain from the reason of the entry at this place to the clause of its literal alone
pub record IsDerivation (cs : Clauses) (es : List Entry) (place start : ℕ) (steps : Steps) : Type 0 where
  pub entry : Entry
  pub at : slice_get es place ≡ Some entry
  pub reason : entry.why ≡ Why.Clause start
  pub chain : IsChainFrom cs start steps (entry.lit ∷ [])

-- the highest level of the clause, or 0
pub record IsHighest (es : List Entry) (c : List Lit) (level : ℕ) : Type 0 where
  pub bound : (k : Lit) → Has c k → level_on es k ≤ level
  pub met : (level ≡ 0) ⊎ ((k : Lit) × Has c k × (level_on es k ≡ level))

-- the highest level of the stored clause, or 0
abbrev pub IsTopLevel : Clauses → List Entry → ℕ → ℕ → Type 0
IsTopLevel cs es n level = (c : List Lit) × (slice_get cs n ≡ Some c) × IsHighest es c level

-- what a walk back along the trail stands on; where all is resolved, all is of level 0
pub record IsWalkable (cs : Clauses) (es : List Entry) (top keep : ℕ) : Type 0 where
  pub levels : AreLevelled 0 es
  pub once : HasOneEntry es
  pub explained : Explains cs es
  pub keeps : keep ≤ 1
  pub all : keep ≡ 0 → top ≡ 0
