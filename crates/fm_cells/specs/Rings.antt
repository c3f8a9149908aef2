-- Classes by number, and the members of each class in a ring: each leads to the next, and the last to the first.
use Rattle.std.specs.Prelude.{◌≡◌, ℕ, suc, ◌+◌, ◌≤◌, ◌==◌, ◌↔◌, Bool, true, if◌then◌else◌, length, List, [], ◌∷◌, min, nat_lt}
use Rattle.std.specs.List.{IsDistinct, slice_index_or}
use Rattle.fm_cells.specs.Forest.{merged}
use Rattle.fm_cells.specs.Members.{is_on}
use Rattle.fm_cells.specs.declared.rings.Root.{Root}

-- the number of a cell, and past the end the place itself
abbrev pub own_or : List ℕ → ℕ → ℕ
own_or cells x = slice_index_or cells x x

-- a node's place in the order of the members of a class: its number, but the nodes 0 and 1 come behind all others
abbrev pub rank : ℕ → ℕ
rank x = if nat_lt x 2 then 18446744073709551615 else x

-- a class of one node
abbrev pub alone : ℕ → Root
alone x = record { size = 1; least = rank x }

-- the class that two classes become
abbrev pub both : Root → Root → Root
both a b = record { size = a.size + b.size; least = min a.least b.least }

-- what is kept of a class by its number; past the end each node is alone
abbrev pub root_or : List Root → ℕ → Root
root_or cells x = slice_index_or cells x (alone x)

-- the node has the least rank in its class
abbrev pub is_least : (ℕ → ℕ) → (ℕ → Root) → ℕ → Bool
is_least class roots x = (roots (class x)).least == rank x

-- the nodes from x on, each the next of the one before, and what is next after the last
abbrev pub IsChain : (ℕ → ℕ) → ℕ → List ℕ → ℕ → Type 0
IsChain next x [] y = x ≡ y
IsChain next x (c ∷ cs) y = (x ≡ c) × IsChain next (next c) cs y

-- the least rank of the members of a class
pub record IsLeast (class : ℕ → ℕ) (root least : ℕ) : Type 0 where
  pub member : ℕ
  pub here : class member ≡ root
  pub is : rank member ≡ least
  pub first : (x : ℕ) → class x ≡ root → least ≤ rank x

-- the members of the class of this number, in a ring that begins there; how many they are, and the least rank of them
pub record HasRing (next class : ℕ → ℕ) (roots : ℕ → Root) (root : ℕ) : Type 0 where
  pub others : List ℕ
  pub ring : IsChain next root (root ∷ others) root
  pub distinct : IsDistinct (λ x y. x == y) (root ∷ others)
  pub members : (y : ℕ) → (is_on (root ∷ others) y ≡ true) ↔ (class y ≡ root)
  pub size_is : suc (length others) ≡ (roots root).size
  pub least_is : IsLeast class root (roots root).least

-- a class is numbered by one of its members, where its ring begins
pub record AreRings (next class : ℕ → ℕ) (roots : ℕ → Root) : Type 0 where
  pub root : (x : ℕ) → class (class x) ≡ class x
  pub rings : (r : ℕ) → class r ≡ r → HasRing next class roots r

-- two numbers change places
abbrev pub swapped : (ℕ → ℕ) → ℕ → ℕ → ℕ → ℕ
swapped next a b x = if x == a then next b else (if x == b then next a else next x)

abbrev pub changed : {X : Type 0} → (ℕ → X) → ℕ → X → ℕ → X
changed f a v x = if x == a then v else f x

abbrev pub relabelled : ℕ → ℕ → ℕ → ℕ
relabelled from to c = if c == from then to else c

-- the class `from` has another number, and the others have theirs
abbrev pub AreRelabelled : ℕ → ℕ → (ℕ → ℕ) → (ℕ → ℕ) → Type 0
AreRelabelled from to old new = (x : ℕ) → new x ≡ relabelled from to (old x)

-- the classes of two nodes are one, and the others are as they were
abbrev pub AreMerged : ℕ → ℕ → (ℕ → ℕ) → (ℕ → ℕ) → Type 0
AreMerged a b old new = (x : ℕ) → new x ≡ merged old a b x
