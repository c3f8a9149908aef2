-- Resolution (Robinson), over literals of any kind. A clause is a set of literals, written as a list in which order and
-- repeats mean nothing.
use Rattle.std.specs.Prelude.{◌≡◌, ◌≢◌, ℕ, ◌⊎◌, not, List, [], ◌∷◌, slice_get, Some, ◌↔◌}
use Rattle.fm_base.specs.declared.ids.Lit.{Lit}

-- the literal is in the clause
abbrev pub Has : {L : Type 0} → List L → L → Type 0
Has [] l = ⊥
Has (k ∷ ks) l = (k ≡ l) ⊎ Has ks l

-- two clauses are one set
abbrev pub SameSet : {L : Type 0} → List L → List L → Type 0
SameSet {L} a b = (l : L) → Has a l ↔ Has b l

-- no literal stands twice
abbrev pub AreDistinct : {L : Type 0} → List L → Type 0
AreDistinct [] = Unit {0}
AreDistinct (l ∷ ls) = (Has ls l → ⊥) × AreDistinct ls

-- resolution on the literal l of a: the rest of a with the rest of b, which has the opposite of l
pub record Resolves {L : Type 0} (opposite : L → L) (a : List L) (l : L) (b result : List L) : Type 0 where
  pub stands : Has a l
  pub against : Has b (opposite l)
  pub exactly : (k : L) → Has result k ↔ ((Has a k × (k ≢ l)) ⊎ (Has b k × (k ≢ opposite l)))

-- one step after the other, each with an earlier clause
abbrev pub Chain : {L : Type 0} → (L → L) → List (List L) → List L → List (L × ℕ) → List L → Type 0
Chain opposite earlier now [] result = SameSet now result
Chain {L} opposite earlier now (step ∷ steps) result = (other : List L) × (next : List L) × (slice_get earlier step.1 ≡ Some other) × Resolves opposite now step.0 other next × Chain opposite earlier next steps result

-- the literal of the same atom with the other sign
abbrev pub opposite : Lit → Lit
opposite l = record { atom = l.atom; positive = not l.positive }
