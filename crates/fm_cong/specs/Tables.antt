-- A table of signatures: the symbol of a term, and the classes of its arguments.
use Rattle.std.specs.Prelude.{◌≡◌, ℕ, ◌<◌, ◌==◌, ◌⊎◌, Bool, List, [], ◌∷◌, ◌++◌, map, slice_get, Option, Some, None}
use Rattle.std.specs.List.{All, AllZip, Contains, slice_index_or}
use Rattle.std.specs.Map.{lookup}
use Rattle.fm_bank.specs.Closure.{Shape, object}
use Rattle.fm_bank.specs.Terms.{Term, is_same}
use Rattle.fm_cells.specs.Rings.{own_or, relabelled}
use Rattle.fm_cong.specs.Paths.{HaveOneClass}

abbrev pub signature : (ℕ → ℕ) → Shape → Term
signature class s = record { symbol = s.symbol; args = map (λ a. class (object a)) s.args }

-- what a table has at a signature
abbrev pub find_in : List (Term × ℕ) → Term → Option ℕ
find_in entries key = lookup (is_same key) entries

-- an entry is of a registered term, whose arguments are of the classes of its signature
pub record IsStored (shapes : List Shape) (class : ℕ → ℕ) (e : Term × ℕ) : Type 0 where
  pub shape : Shape
  pub there : Contains shapes shape
  pub node : e.1 ≡ object shape.number
  pub symbols : shape.symbol ≡ e.0.symbol
  pub args : AllZip (λ a c. class (object a) ≡ class c) shape.args e.0.args

-- two registered terms of one symbol, with arguments of the same classes
pub record AreCongruent (shapes : List Shape) (class : ℕ → ℕ) (p : ℕ × ℕ) : Type 0 where
  pub left : Shape
  pub right : Shape
  pub left_in : Contains shapes left
  pub right_in : Contains shapes right
  pub left_is : p.0 ≡ object left.number
  pub right_is : p.1 ≡ object right.number
  pub symbols : left.symbol ≡ right.symbol
  pub args : HaveOneClass class left.args right.args

-- more was put behind what there was
abbrev pub HasGrown : {X : Type 0} → List X → List X → Type 0
HasGrown {X} old new = (more : List X) × (new ≡ old ++ more)

-- what is stored and what waits
pub record IsEntering (shapes : List Shape) (class : ℕ → ℕ) (entries : List (Term × ℕ)) (waiting : List (ℕ × ℕ)) : Type 0 where
  pub roots : (x : ℕ) → class (class x) ≡ class x
  pub stored : All (IsStored shapes class) entries
  pub waits : All (AreCongruent shapes class) waiting

-- the nodes of a term and of its arguments are below a number
pub record IsKnown (count : ℕ) (s : Shape) : Type 0 where
  pub node : object s.number < count
  pub args : All (λ a. object a < count) s.args

-- the class of a node once the class `from` has the number `to`
abbrev pub moved : ℕ → ℕ → List ℕ → ℕ → ℕ
moved from to cells x = relabelled from to (own_or cells x)

abbrev pub new_entry : Option ℕ → Term → ℕ → List (Term × ℕ)
new_entry None key node = (key, node) ∷ []
new_entry (Some u) key node = []

abbrev pub new_pair : Option ℕ → ℕ → List (ℕ × ℕ)
new_pair None node = []
new_pair (Some u) node = (u, node) ∷ []

abbrev pub by_number : (ℕ → ℕ) → ℕ → ℕ → Bool
by_number class x y = class x == class y

-- the table has a term of the same signature, which is of the same class, or waits to be joined
abbrev pub IsEntered : (ℕ → ℕ) → (Term → Option ℕ) → List (ℕ × ℕ) → Shape → Type 0
IsEntered class find waiting s = (u : ℕ) × (find (signature class s) ≡ Some u) × ((class u ≡ class (object s.number)) ⊎ Contains waiting (u, object s.number))

abbrev pub IsTable : List Shape → (ℕ → ℕ) → (Term → Option ℕ) → List (ℕ × ℕ) → Type 0
IsTable shapes class find waiting = All (IsEntered class find waiting) shapes

-- the term at this place is entered
abbrev pub IsAgain : List Shape → (ℕ → ℕ) → List (Term × ℕ) → List (ℕ × ℕ) → ℕ → Type 0
IsAgain shapes class entries waiting i = (s : Shape) → slice_get shapes i ≡ Some s → IsEntered class (find_in entries) waiting s

abbrev pub AreAgain : List Shape → (ℕ → ℕ) → List (Term × ℕ) → List (ℕ × ℕ) → List ℕ → Type 0
AreAgain shapes class entries waiting places = All (IsAgain shapes class entries waiting) places

-- what is stored and what waits stays so, once more is stored and more waits
abbrev pub KeepsEntering : List Shape → (ℕ → ℕ) → List (Term × ℕ) → List (ℕ × ℕ) → List (Term × ℕ) → List (ℕ × ℕ) → Type 0
KeepsEntering shapes class entries waiting more_entries more_waiting = IsEntering shapes class entries waiting → IsEntering shapes class more_entries more_waiting

-- the same for all registered terms that this one is among
abbrev pub KeepsEnteringOf : Shape → (ℕ → ℕ) → List (Term × ℕ) → List (ℕ × ℕ) → List (Term × ℕ) → List (ℕ × ℕ) → Type 0
KeepsEnteringOf s class entries waiting more_entries more_waiting =
    (shapes : List Shape) → Contains shapes s → KeepsEntering shapes class entries waiting more_entries more_waiting

-- the places of the terms that have a node as an argument
abbrev pub uses_at : List (List ℕ) → ℕ → List ℕ
uses_at uses x = slice_index_or uses x []

-- the terms that have an argument of the class `from` are entered, by their signatures once it has the number `to`
abbrev pub IsClassAgain : List Shape → List (List ℕ) → ℕ → ℕ → List ℕ → List (Term × ℕ) → List (ℕ × ℕ) → Type 0
IsClassAgain shapes uses from to cells entries waiting =
    (x : ℕ) → own_or cells x ≡ from → AreAgain shapes (moved from to cells) entries waiting (uses_at uses x)

abbrev pub AreUses : List Shape → List (List ℕ) → Type 0
AreUses shapes uses = (i : ℕ) (s : Shape) (t : ℕ) → slice_get shapes i ≡ Some s → Contains s.args t → Contains (uses_at uses (object t)) i

-- some pairs are left, and those that are gone are of one class
pub record IsLeft (class : ℕ → ℕ) (old new : List (ℕ × ℕ)) : Type 0 where
  pub kept : (p : ℕ × ℕ) → Contains new p → Contains old p
  pub gone : (u v : ℕ) → Contains old (u, v) → (class u ≡ class v) ⊎ Contains new (u, v)
