-- Terms by their sorts, and the first terms of classes. The node n + 2 is the term n.
use Rattle.std.specs.Prelude.{◌≡◌, ◌<◌, ◌+◌, ℕ, ◌==◌, ◌&&◌, ◌||◌, Bool, List, [], length, Option, Some, None, slice_get, vec_capacity, vec_len}
use Rattle.std.specs.List.{All}
use Rattle.fm_base.specs.declared.ids.TermId.{TermId}
use Rattle.fm_cells.specs.Ascending.{is_in}
use Rattle.fm_cells.specs.Rings.{is_least, own_or, root_or}
use Rattle.fm_cells.specs.declared.ascending.Ascending.{Ascending}
use Rattle.fm_cells.specs.declared.rings.Classes.{Classes}
use Rattle.fm_cells.specs.declared.sorts.Sorts.{Sorts}

-- the terms of a sort
abbrev pub terms_of : Option Ascending → List TermId
terms_of None = []
terms_of (Some a) = a.items.items

abbrev pub list_of : Sorts → ℕ → List TermId
list_of o s = terms_of (slice_get o.lists.items s)

-- there is room for one more term of a sort
pub record HasRoomFor (o : Sorts) (sort : ℕ) : Type 0 where
  pub there : sort < length o.lists.items
  pub room : (a : Ascending) → slice_get o.lists.items sort ≡ Some a → vec_len a.items < vec_capacity a.items

abbrev pub SaysTheSame : Sorts → Sorts → Type 0
SaysTheSame old new = (s : ℕ) → list_of new s ≡ list_of old s

-- the term of this number is one of its sort, and nothing else has changed
abbrev pub HasTerm : Sorts → Sorts → ℕ → ℕ → Type 0
HasTerm old new term sort = (s n : ℕ) → is_in (list_of new s) n ≡ (is_in (list_of old s) n || (s == sort && n == term))

-- each of the terms has its node, and each node has its class
pub record AreNodes (c : Classes) (terms : List TermId) : Type 0 where
  pub below : (x : ℕ) → x < length c.class.cells.items → own_or c.class.cells.items x < length c.size.cells.items
  pub known : All (λ (t : TermId). t.0 + 2 < length c.class.cells.items) terms

-- a term is the first of its class
abbrev pub is_first : Classes → TermId → Bool
is_first c t = is_least (own_or c.class.cells.items) (root_or c.size.cells.items) (t.0 + 2)
