-- Pairs of terms that are unequal, and the classes between which they stand. The node n + 2 is the term n.
use Rattle.std.specs.Prelude.{◌≡◌, ◌<◌, ◌≤◌, ◌+◌, ℕ, ◌==◌, ◌&&◌, ◌⊎◌, Bool, true, if◌then◌else◌, List, [], ◌∷◌, ◌++◌, length, nat_lt, slice_get, take, Some}
use Rattle.std.specs.List.{All, Contains, list_any, slice_index_or}
use Rattle.fm_base.specs.declared.ids.TermId.{TermId}
use Rattle.fm_cells.specs.Logs.{WereWritten}
use Rattle.fm_cells.specs.Rings.{own_or}
use Rattle.fm_cells.specs.declared.apart.Apart.{Apart}
use Rattle.fm_cells.specs.declared.apart.Between.{Between}
use Rattle.fm_cells.specs.declared.apart.Cut.{Cut}

-- the nodes of the sides of a pair
abbrev pub left_node : TermId × TermId → ℕ
left_node p = p.0.0 + 2

abbrev pub right_node : TermId × TermId → ℕ
right_node p = p.1.0 + 2

-- the nodes of a pair are below a count
abbrev pub IsPairWithin : ℕ → TermId × TermId → Type 0
IsPairWithin count p = (left_node p < count) × (right_node p < count)

abbrev pub ArePairsWithin : ℕ → List (TermId × TermId) → Type 0
ArePairsWithin count pairs = All (IsPairWithin count) pairs

-- two numbers of classes are a key
abbrev pub is_key : List Between → ℕ → ℕ → Bool
is_key keys c d = list_any (λ (k : Between). (c == k.left) && (d == k.right)) keys

-- a pair has one side in each of two classes, by the number of one of their nodes
pub record HasPair (class : ℕ → ℕ) (pairs : List (TermId × TermId)) (c d : ℕ) : Type 0 where
  pub pair : TermId × TermId
  pub there : Contains pairs pair
  pub left : class c ≡ class (left_node pair)
  pub right : class d ≡ class (right_node pair)

-- the classes of the sides of a pair are a key, and it is told where they are one
pub record IsEntered (class : ℕ → ℕ) (keys : List Between) (joined : Bool) (p : TermId × TermId) : Type 0 where
  pub key : is_key keys (class (left_node p)) (class (right_node p)) ≡ true
  pub joins : class (left_node p) ≡ class (right_node p) → joined ≡ true

-- these are two numbers of classes that were a key, or those of the classes of a pair
abbrev pub IsKeyOr : (ℕ → ℕ) → List Between → TermId × TermId → ℕ → ℕ → Type 0
IsKeyOr class keys p c d = (is_key keys c d ≡ true) ⊎ ((c ≡ class (left_node p)) × (d ≡ class (right_node p)))

-- the places of the pairs that have a node as a side
abbrev pub places_at : List (List ℕ) → ℕ → List ℕ
places_at sides x = slice_index_or sides x []

-- the places without the last, where that isn't below a bound
abbrev pub popped_from : ℕ → List ℕ → List ℕ
popped_from bound [] = []
popped_from bound (p ∷ []) = if nat_lt p bound then p ∷ [] else []
popped_from bound (p ∷ q ∷ ps) = p ∷ popped_from bound (q ∷ ps)

-- so it is at one node, and the others have theirs
abbrev pub HasPopped : ℕ → ℕ → List (List ℕ) → List (List ℕ) → Type 0
HasPopped bound node old new = (x : ℕ) → places_at new x ≡ (if x == node then popped_from bound (places_at old x) else places_at old x)

abbrev pub HasSides : List (List ℕ) → ℕ → TermId × TermId → Type 0
HasSides sides i p = Contains (places_at sides (left_node p)) i × Contains (places_at sides (right_node p)) i

abbrev pub AreSides : List (TermId × TermId) → List (List ℕ) → Type 0
AreSides pairs sides = (i : ℕ) (p : TermId × TermId) → slice_get pairs i ≡ Some p → HasSides sides i p

abbrev pub AreSound : (ℕ → ℕ) → List (TermId × TermId) → List Between → Type 0
AreSound class pairs keys = (c d : ℕ) → is_key keys c d ≡ true → HasPair class pairs c d

-- each pair is entered by the classes of its sides, and each key is of a pair
pub record AreKeys (class : ℕ → ℕ) (pairs : List (TermId × TermId)) (sides : List (List ℕ)) (keys : List Between) (joined : Bool) : Type 0 where
  pub placed : AreSides pairs sides
  pub entered : All (IsEntered class keys joined) pairs
  pub sound : AreSound class pairs keys

-- the keys are those of the classes, unless memory was wanting
abbrev pub IsIndexed : (ℕ → ℕ) → Apart → Type 0
IsIndexed class a = a.whole ≡ true → AreKeys class a.pairs.items a.sides.items a.keys.keys a.joined

-- the same for what a rewind to a cut leaves
pub record IsIndexedAt (class : ℕ → ℕ) (a : Apart) (c : Cut) : Type 0 where
  pub pairs : c.pairs ≤ length a.pairs.items
  pub keys : c.keys ≤ length a.keys.keys
  pub right : c.whole ≡ true → AreKeys class (take c.pairs a.pairs.items) a.sides.items (take c.keys a.keys.keys) c.joined

-- a class is numbered by one of its nodes
abbrev pub HasRoots : (ℕ → ℕ) → Type 0
HasRoots class = (x : ℕ) → class (class x) ≡ class x

-- nodes of one class stay so
abbrev pub StaysJoined : (ℕ → ℕ) → (ℕ → ℕ) → Type 0
StaysJoined old new = (x y : ℕ) → old x ≡ old y → new x ≡ new y

-- keys that are of pairs stay so
abbrev pub KeepsSound : (ℕ → ℕ) → List (TermId × TermId) → List Between → List Between → Type 0
KeepsSound class pairs old new = HasRoots class → AreSound class pairs old → AreSound class pairs new

-- the pairs at some places are entered
abbrev pub AreEnteredAt : (ℕ → ℕ) → List (TermId × TermId) → List Between → Bool → List ℕ → Type 0
AreEnteredAt class pairs keys joined places =
    (i : ℕ) → Contains places i → (p : TermId × TermId) → slice_get pairs i ≡ Some p → IsEntered class keys joined p

-- those of each node that a log of writes names
abbrev pub AreEnteredBehind : (ℕ → ℕ) → List (TermId × TermId) → List (List ℕ) → List Between → Bool → List (ℕ × ℕ) → Type 0
AreEnteredBehind class pairs sides keys joined log =
    (x v : ℕ) → Contains log (x, v) → AreEnteredAt class pairs keys joined (places_at sides x)

-- what was there stands in front
pub record IsLonger (old new : List Between) : Type 0 where
  pub more : List Between
  pub is : new ≡ old ++ more

-- what a rewind to a cut leaves stays so
abbrev pub KeepsCuts : Apart → Apart → Type 0
KeepsCuts old new = (class : ℕ → ℕ) (c : Cut) → IsIndexedAt class old c → IsIndexedAt class new c

-- the same where classes don't change
abbrev pub KeepsIndex : Apart → Apart → Type 0
KeepsIndex old new = (class : ℕ → ℕ) → IsIndexed class old → IsIndexed class new

abbrev pub KeepsIndexOf : (ℕ → ℕ) → Apart → Apart → Type 0
KeepsIndexOf class old new = HasRoots class → IsIndexed class old → IsIndexed class new

-- where the keys were those of the classes before these writes, which joined classes, they are those of the classes
abbrev pub FollowsJoins : Apart → Apart → List ℕ → List (ℕ × ℕ) → Type 0
FollowsJoins old new cells log =
    (before : List ℕ) → WereWritten log before cells → StaysJoined (own_or before) (own_or cells) → HasRoots (own_or cells)
    → IsIndexed (own_or before) old → IsIndexed (own_or cells) new

-- the places below a bound stay
abbrev pub KeepsPlaces : ℕ → List (List ℕ) → List (List ℕ) → Type 0
KeepsPlaces bound old new = (x i : ℕ) → i < bound → Contains (places_at old x) i → Contains (places_at new x) i
