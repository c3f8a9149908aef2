-- The explanation forest: each node has at most one link, to another node (Nieuwenhuis and Oliveras, proof forest).
use Rattle.std.specs.Prelude.{◌≡◌, ℕ, zero, suc, ◌<◌, length, ◌==◌, ◌⊎◌, if◌then◌else◌, List, [], ◌∷◌, Option, Some, None}
use Rattle.std.specs.List.{slice_index_or}
use Rattle.fm_cells.specs.declared.edge.Edge.{Edge}

-- the link of a node, by a list of cells
abbrev pub link_of : List (Option Edge) → ℕ → Option Edge
link_of links x = slice_index_or links x None

-- the links up to the last
abbrev pub before_rest : Option Edge → List (Option Edge) → List (Option Edge)
before_rest None [] = []
before_rest None (y ∷ ys) = None ∷ y ∷ ys
before_rest (Some l) ys = Some l ∷ ys

abbrev pub trimmed : List (Option Edge) → List (Option Edge)
trimmed [] = []
trimmed (x ∷ xs) = before_rest x (trimmed xs)

-- the way up from a node: the nodes on it that have a link, and the end of the tree
abbrev pub IsUp : (ℕ → Option Edge) → ℕ → List ℕ → ℕ → Type 0
IsUp link x [] top = (x ≡ top) × (link x ≡ None)
IsUp link x (y ∷ ys) top = (x ≡ y) × ((l : Edge) × (link x ≡ Some l) × IsUp link l.to ys top)

-- a node's way up ends
pub record HasEnd (link : ℕ → Option Edge) (x : ℕ) : Type 0 where
  pub nodes : List ℕ
  pub end : ℕ
  pub way : IsUp link x nodes end

-- the link of another node
abbrev pub relinked : (ℕ → Option Edge) → ℕ → Option Edge → ℕ → Option Edge
relinked link p new x = if x == p then new else link x

-- the same link seen from the node to which it leads
abbrev pub turned : ℕ → Edge → Edge
turned e l = record { to = e; cause = l.cause; time = l.time }

-- the link stands at the one of its nodes or at the other
abbrev pub HasEdge : (ℕ → Option Edge) → ℕ → Edge → Type 0
HasEdge link e l = (link e ≡ Some l) ⊎ (link l.to ≡ Some (turned e l))

-- it is the one at this node
abbrev pub IsHere : ℕ → Edge → ℕ → Edge → Type 0
IsHere p o e l = ((p ≡ e) × (o ≡ l)) ⊎ ((p ≡ l.to) × (o ≡ turned e l))

-- a forest whose trees are the classes: each way up ends, a link stays within its class, and each class has one end
pub record AreTrees (link : ℕ → Option Edge) (class : ℕ → ℕ) : Type 0 where
  pub ended : (x : ℕ) → HasEnd link x
  pub within : (e : ℕ) (l : Edge) → link e ≡ Some l → class e ≡ class l.to
  pub one_end : (x y : ℕ) → link x ≡ None → link y ≡ None → class x ≡ class y → x ≡ y

-- two nodes are in one tree
abbrev pub AreInOneTree : (ℕ → Option Edge) → ℕ → ℕ → Type 0
AreInOneTree link x y = (xs : List ℕ) × ((ys : List ℕ) × ((top : ℕ) × IsUp link x xs top × IsUp link y ys top))

-- the classes once that of x is moved into that of y
abbrev pub merged : (ℕ → ℕ) → ℕ → ℕ → ℕ → ℕ
merged class x y z = if class z == class x then class y else class z

-- trees of classes become trees of the merged classes
abbrev pub MergeTrees : (ℕ → Option Edge) → (ℕ → Option Edge) → ℕ → ℕ → Type 0
MergeTrees old new x y = (class : ℕ → ℕ) → AreTrees old class → AreTrees new (merged class x y)

-- the links before, and one more from x
pub record HasOneMore (old new : ℕ → Option Edge) (x : ℕ) (edge : Edge) : Type 0 where
  pub kept : (e : ℕ) (l : Edge) → old e ≡ Some l → HasEdge new e l
  pub added : HasEdge new x edge
  pub only : (e : ℕ) (l : Edge) → new e ≡ Some l → HasEdge old e l ⊎ IsHere x edge e l

-- Links between two writes of a merge: the next write is of the link `new` at the node `at`, whose tree it joins to the
-- tree to which that link leads.
pub record IsTurning (link : ℕ → Option Edge) (class : ℕ → ℕ) (at : ℕ) (new : Edge) : Type 0 where
  pub rest : List ℕ
  pub top : ℕ
  pub onward : IsUp link at rest top
  pub under : List ℕ
  pub low : ℕ
  pub behind : IsUp link new.to under low
  pub apart : low ≡ top → ⊥
  pub ended : (z : ℕ) → HasEnd link z
  pub within : (e : ℕ) (l : Edge) → link e ≡ Some l → class e ≡ class l.to
  pub pending : class at ≡ class new.to
  pub one_end : (z w : ℕ) → link z ≡ None → link w ≡ None → (z ≡ top → ⊥) → (w ≡ top → ⊥) → class z ≡ class w → z ≡ w

-- between two writes the links are those before, and one more from x, one of them still to be written
pub record HasOnePending (old link : ℕ → Option Edge) (x : ℕ) (edge : Edge) (at : ℕ) (new : Edge) : Type 0 where
  pub kept : (e : ℕ) (l : Edge) → old e ≡ Some l → HasEdge link e l ⊎ IsHere at new e l
  pub added : HasEdge link x edge ⊎ IsHere at new x edge
  pub only : (e : ℕ) (l : Edge) → link e ≡ Some l → HasEdge old e l ⊎ IsHere x edge e l
  pub next : HasEdge old at new ⊎ IsHere x edge at new

-- how many links a way up has, counted to at most `most`
abbrev pub height : ℕ → (ℕ → Option Edge) → Option Edge → ℕ
height zero link o = 0
height (suc most) link None = 0
height (suc most) link (Some l) = suc (height most link (link l.to))

-- the height of a node
abbrev pub height_of : List (Option Edge) → ℕ → ℕ
height_of links x = height (length links) (link_of links) (link_of links x)

-- each link leads to a node
abbrev pub AreWithin : List (Option Edge) → Type 0
AreWithin links = (e : ℕ) (l : Edge) → link_of links e ≡ Some l → l.to < length links
