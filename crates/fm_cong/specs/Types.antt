-- The types of the registered terms, and the first term of each class of a sort.
use Rattle.std.specs.Prelude.{◌≡◌, ◌↔◌, ◌≤◌, ℕ, List, true}
use Rattle.std.specs.List.{Contains}
use Rattle.fm_base.specs.declared.ids.SortId.{SortId}
use Rattle.fm_base.specs.declared.ids.TermId.{TermId}
use Rattle.fm_base.specs.declared.signature.Ty.{Ty}
use Rattle.fm_bank.specs.Closure.{Shape, object}
use Rattle.fm_cells.specs.Ascending.{IsAscending, is_in}
use Rattle.fm_cells.specs.Sorts.{HasRoomFor, HasTerm, SaysTheSame, list_of}
use Rattle.fm_cells.specs.declared.sorts.Sorts.{Sorts}
use Rattle.fm_cong.specs.Held.{AreEqual, Held, IsRegistered}

-- it has this sort, and is the oldest (of least number) of the registered terms that are equal to it
pub record IsOldest (g : Held) (sort : SortId) (t : TermId) : Type 0 where
  pub registered : IsRegistered g.shapes t.0
  pub typed : Contains g.types (t, Ty.Of sort)
  pub first : (n : ℕ) → IsRegistered g.shapes n → AreEqual g (object t.0) (object n) → t.0 ≤ n

-- the oldest term of each class of a sort, in ascending order of their numbers
pub record AreOldest (g : Held) (sort : SortId) (list : List TermId) : Type 0 where
  pub ascending : IsAscending list
  pub oldest : (t : TermId) → Contains list t ↔ IsOldest g sort t

-- it is the oldest of the registered terms that are equal to a term
pub record IsOldestOf (g : Held) (t oldest : TermId) : Type 0 where
  pub registered : IsRegistered g.shapes oldest.0
  pub equal : AreEqual g (object t.0) (object oldest.0)
  pub first : (n : ℕ) → IsRegistered g.shapes n → AreEqual g (object t.0) (object n) → oldest.0 ≤ n

-- the terms of each sort are listed, and they are registered
pub record AreSorts (shapes : List Shape) (types : List (TermId × Ty)) (o : Sorts) : Type 0 where
  pub lists : (t : TermId) (sort : SortId) → (is_in (list_of o sort.0) t.0 ≡ true) ↔ Contains types (t, Ty.Of sort)
  pub typed : (t : TermId) (ty : Ty) → Contains types (t, ty) → IsRegistered shapes t.0

-- there is room for a term of a type
abbrev pub IsAnnounced : Sorts → Ty → Type 0
IsAnnounced o Ty.Bool = Unit {0}
IsAnnounced o (Ty.Of sort) = HasRoomFor o sort.0

-- it is listed, where it has a sort
abbrev pub HasNoted : Sorts → Sorts → ℕ → Ty → Type 0
HasNoted old new term Ty.Bool = SaysTheSame old new
HasNoted old new term (Ty.Of sort) = HasTerm old new term sort.0
