-- What the literals read say of nodes: yes, no and the terms.
use Rattle.std.specs.Prelude.{ℕ, ◌<◌, ◌==◌, ◌&&◌, ◌||◌, Bool, true, false, if◌then◌else◌, List, Option, Some, None}
use Rattle.std.specs.List.{All, filter_map, list_any}
use Rattle.fm_base.specs.declared.ids.TermId.{TermId}
use Rattle.fm_bank.specs.Closure.{no, object, yes}
use Rattle.fm_bank.specs.declared.atom.Atom.{Atom}
use Rattle.fm_cells.specs.Rings.{own_or}
use Rattle.fm_cong.specs.declared.fact.Fact.{Fact}

-- the nodes that a literal joins: a true equality its sides, a predicate term yes or no
abbrev pub sides : Atom → Bool → Option (ℕ × ℕ)
sides (Atom.Equal a b) true = Some (object a.0, object b.0)
sides (Atom.Equal a b) false = None
sides (Atom.Pred t) positive = Some (object t.0, if positive then yes else no)
sides (Atom.Card s k) positive = None
sides (Atom.Bound n) positive = None

abbrev pub joined_by : Fact → Option (ℕ × ℕ)
joined_by f = sides f.atom f.lit.positive

-- the pairs of nodes that the facts join
abbrev pub pairs_of : List Fact → List (ℕ × ℕ)
pairs_of facts = filter_map joined_by facts

-- the nodes of an atom's terms are below a count
abbrev pub IsAtomBelow : ℕ → Atom → Type 0
IsAtomBelow count (Atom.Equal a b) = (object a.0 < count) × (object b.0 < count)
IsAtomBelow count (Atom.Pred t) = object t.0 < count
IsAtomBelow count (Atom.Card s k) = Unit {0}
IsAtomBelow count (Atom.Bound n) = Unit {0}

abbrev pub AreAtomsBelow : ℕ → List Fact → Type 0
AreAtomsBelow count facts = All (λ (f : Fact). IsAtomBelow count f.atom) facts

-- the terms that a literal says are unequal: the sides of a false equality
abbrev pub unequal_sides : Atom → Bool → Option (ℕ × ℕ)
unequal_sides (Atom.Equal a b) true = None
unequal_sides (Atom.Equal a b) false = Some (a.0, b.0)
unequal_sides (Atom.Pred t) positive = None
unequal_sides (Atom.Card s k) positive = None
unequal_sides (Atom.Bound n) positive = None

abbrev pub unequal_by : Fact → Option (ℕ × ℕ)
unequal_by f = unequal_sides f.atom f.lit.positive

-- the pairs of terms that the facts say are unequal
abbrev pub unequal_of : List Fact → List (ℕ × ℕ)
unequal_of facts = filter_map unequal_by facts

-- two terms by their numbers
abbrev pub numbers_of_pair : TermId × TermId → ℕ × ℕ
numbers_of_pair p = (p.0.0, p.1.0)

-- By the classes of nodes: whether a pair of unequal terms has one side in the class of each of two nodes.
abbrev pub is_between : (ℕ → ℕ) → ℕ → ℕ → ℕ × ℕ → Bool
is_between class x y p = (class x == class (object p.0)) && (class y == class (object p.1))

abbrev pub is_parted : List ℕ → ℕ → ℕ → Option (ℕ × ℕ) → Bool
is_parted cells x y None = false
is_parted cells x y (Some p) = is_between (own_or cells) x y p || is_between (own_or cells) y x p

abbrev pub are_parted : List ℕ → ℕ → ℕ → List Fact → Bool
are_parted cells x y facts = list_any (λ f. is_parted cells x y (unequal_by f)) facts
