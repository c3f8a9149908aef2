-- A clause that is false on a trail, as marks on the trail's entries.
use Rattle.std.specs.Prelude.{◌≡◌, ◌≢◌, ℕ, ◌+◌, ◌<◌, ◌≤◌, ◌==◌, ◌⊎◌, ◌↔◌, true, Bool, ◌&&◌, if◌then◌else◌, List, [], ◌∷◌, length, slice_get, Some}
use Rattle.fm_base.specs.declared.ids.Lit.{Lit}
use Rattle.fm_base.specs.Resolution.{Has, AreDistinct, opposite}
use Rattle.fm_trail.specs.declared.entry.Entry.{Entry}
use Rattle.fm_trail.specs.Trail.{place_of}
use Rattle.fm_sat.specs.declared.learning.Walk.{Walk}
use Rattle.fm_sat.specs.declared.marks.Marks.{Marks}
use Rattle.fm_sat.specs.Learning.{Clauses, Derives, IsStep}

-- the literals that the marked entries make false
abbrev pub marked : List Bool → List Entry → List Lit
marked [] es = []
marked (m ∷ ms) [] = []
marked (m ∷ ms) (e ∷ es) = if m then opposite e.lit ∷ marked ms es else marked ms es

-- how many marked entries are of this level
abbrev pub count_at : ℕ → List Bool → List Entry → ℕ
count_at level [] es = 0
count_at level (m ∷ ms) [] = 0
count_at level (m ∷ ms) (e ∷ es) = (if m && e.level == level then 1 else 0) + count_at level ms es

abbrev pub IsMarked : List Bool → ℕ → Type 0
IsMarked marks p = slice_get marks p ≡ Some true

-- a marked entry
pub record Marked (marks : List Bool) (es : List Entry) (p : ℕ) : Type 0 where
  pub entry : Entry
  pub mark : IsMarked marks p
  pub at : slice_get es p ≡ Some entry

-- The marks with the count of those at the highest level and the literals of lower levels.
pub record AreCounted (es : List Entry) (top : ℕ) (marks : List Bool) (count : ℕ) (lower : List Lit) : Type 0 where
  pub whole : length marks ≡ length es
  pub count_is : count ≡ count_at top marks es
  pub low : (p : ℕ) (m : Marked marks es p) → m.entry.level ≤ top
  pub lower_are : (k : Lit) → Has lower k ↔ ((p : ℕ) × (m : Marked marks es p) × (m.entry.level < top) × (opposite m.entry.lit ≡ k))
  pub lower_once : AreDistinct lower

abbrev pub IsCounted : List Entry → ℕ → Marks → Type 0
IsCounted es top m = AreCounted es top m.marks.items m.count m.lower.items

-- the clause that marks stand for, before and after one step of the rule
abbrev pub IsStepBetween : ℕ → Clauses → List Entry → Marks → Lit × ℕ → Marks → Type 0
IsStepBetween keep cs es old s new = IsStep keep cs es (marked old.marks.items es) s.0 s.1 (marked new.marks.items es)

-- and before and after all steps of a walk
abbrev pub IsWalk : ℕ → Clauses → List Entry → Marks → Walk → Marks → Type 0
IsWalk keep cs es old w new = Derives keep cs es (marked old.marks.items es) w.steps.items (marked new.marks.items es)

-- a literal of the clause has its entry at this place, which is below the bound
pub record IsSeenIn (es : List Entry) (lits : List Lit) (bound p : ℕ) : Type 0 where
  pub lit : Lit
  pub has : Has lits lit
  pub place : place_of es lit.atom ≡ Some p
  pub below : p < bound

-- marked are those that were, and those of the clause
abbrev pub AreJoined : List Entry → List Lit → ℕ → List Bool → List Bool → Type 0
AreJoined es lits bound old new = (p : ℕ) → IsMarked new p ↔ (IsMarked old p ⊎ IsSeenIn es lits bound p)

-- all marks are below the bound
abbrev pub AreBelow : List Bool → ℕ → Type 0
AreBelow marks bound = (p : ℕ) → IsMarked marks p → p < bound

-- an entry of at most this level
abbrev pub IsEntryUpTo : List Entry → ℕ → ℕ → Type 0
IsEntryUpTo es place top = (e : Entry) × (slice_get es place ≡ Some e) × (e.level ≤ top)

-- marked are those that were, and this place
abbrev pub IsMarkedFrom : List Bool → ℕ → List Bool → Type 0
IsMarkedFrom old place new = (p : ℕ) → IsMarked new p ↔ (IsMarked old p ⊎ (p ≡ place))

-- marked are those that were, but for this place
abbrev pub IsUnmarked : List Bool → ℕ → List Bool → Type 0
IsUnmarked old place new = (p : ℕ) → IsMarked new p ↔ (IsMarked old p × (p ≢ place))

-- the literals of the clause whose entries are below the bound are of at most this level
abbrev pub AreLow : List Entry → List Lit → ℕ → ℕ → Type 0
AreLow es lits bound top = (p : ℕ) → IsSeenIn es lits bound p → IsEntryUpTo es p top

-- the last mark below the bound
pub record IsLastMark (marks : List Bool) (bound p : ℕ) : Type 0 where
  pub marked : IsMarked marks p
  pub below : p < bound
  pub last : (q : ℕ) → IsMarked marks q → q < bound → q ≤ p

-- the last of all marks
pub record IsLastOf (marks : List Bool) (p : ℕ) : Type 0 where
  pub marked : IsMarked marks p
  pub last : (q : ℕ) → IsMarked marks q → q ≤ p
