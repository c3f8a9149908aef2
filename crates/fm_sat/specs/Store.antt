-- A clause store: clauses by number, and which of them are false or unit on a trail.
use Rattle.std.specs.Prelude.{◌≡◌, ℕ, ◌-◌, ◌<◌, ◌≤◌, true, false, List, [], ◌∷◌, ◌++◌, map, take, drop, length, slice_get, Some, None}
use Rattle.fm_base.specs.declared.ids.Lit.{Lit}
use Rattle.fm_trail.specs.declared.entry.Entry.{Entry}
use Rattle.fm_trail.specs.Trail.{are_false, unit_of}
use Rattle.fm_sat.specs.declared.store.Span.{Span}

-- what a store holds: its clauses by number
pub record Stored : Type 0 where
  pub clauses : List (List Lit)

-- one clause more
abbrev pub with_clause : Stored → List Lit → Stored
with_clause s c = record { clauses = s.clauses ++ c ∷ [] }

-- the literals of a clause in the one list of all literals
abbrev pub cut : List Lit → Span → List Lit
cut lits s = take (s.end - s.start) (drop s.start lits)

abbrev pub clauses_of : List Lit → List Span → List (List Lit)
clauses_of lits spans = map (cut lits) spans

-- the span is within the list
abbrev pub IsSpan : List Lit → Span → Type 0
IsSpan lits s = (s.start ≤ s.end) × (s.end ≤ length lits)

abbrev pub AreSpans : List Lit → List Span → Type 0
AreSpans lits [] = Unit {0}
AreSpans lits (s ∷ ss) = IsSpan lits s × AreSpans lits ss

-- the clause of this number is unit: this literal has no value, and all others are false
pub record IsUnit (cs : List (List Lit)) (es : List Entry) (n : ℕ) (l : Lit) : Type 0 where
  pub clause : List Lit
  pub stored : slice_get cs n ≡ Some clause
  pub unit : unit_of es clause ≡ Some l

-- the first clause that is unit, and its one literal without value
pub record IsFirstUnit (cs : List (List Lit)) (es : List Entry) (n : ℕ) (l : Lit) : Type 0 where
  pub unit : IsUnit cs es n l
  pub first : (i : ℕ) (c : List Lit) → i < n → slice_get cs i ≡ Some c → unit_of es c ≡ None

abbrev pub HasNoUnit : List (List Lit) → List Entry → Type 0
HasNoUnit cs es = (i : ℕ) (c : List Lit) → slice_get cs i ≡ Some c → unit_of es c ≡ None

-- the first clause whose literals are all false
pub record IsFirstFalse (cs : List (List Lit)) (es : List Entry) (n : ℕ) : Type 0 where
  pub clause : List Lit
  pub stored : slice_get cs n ≡ Some clause
  pub falsified : are_false es clause ≡ true
  pub first : (i : ℕ) (c : List Lit) → i < n → slice_get cs i ≡ Some c → are_false es c ≡ false

abbrev pub HasNoFalse : List (List Lit) → List Entry → Type 0
HasNoFalse cs es = (i : ℕ) (c : List Lit) → slice_get cs i ≡ Some c → are_false es c ≡ false
