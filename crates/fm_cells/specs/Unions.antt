-- What is said of the three lists of cells that hold the classes together.
use Rattle.std.specs.Prelude.{◌≡◌, ◌<◌, ◌++◌, ◌∷◌, [], length, vec_capacity, vec_len}
use Rattle.fm_cells.specs.Logs.{HasLogged}
use Rattle.fm_cells.specs.Rings.{AreRings, alone, own_or, root_or}
use Rattle.fm_cells.specs.declared.rings.Classes.{Classes}

-- the members of each class are in a ring
abbrev pub HasRings : Classes → Type 0
HasRings c = AreRings (own_or c.next.cells.items) (own_or c.class.cells.items) (root_or c.size.cells.items)

-- and they stay so
abbrev pub KeepsRings : Classes → Classes → Type 0
KeepsRings old new =
    length old.next.cells.items ≡ length old.class.cells.items → length old.size.cells.items ≡ length old.class.cells.items → HasRings old → HasRings new

-- what was written into each list is in its log
abbrev pub LogsClass : Classes → Classes → Type 0
LogsClass old new = HasLogged old.class.log.items old.class.cells.items new.class.log.items new.class.cells.items

abbrev pub LogsNext : Classes → Classes → Type 0
LogsNext old new = HasLogged old.next.log.items old.next.cells.items new.next.log.items new.next.cells.items

abbrev pub LogsSize : Classes → Classes → Type 0
LogsSize old new = HasLogged old.size.log.items old.size.cells.items new.size.log.items new.size.cells.items

-- the cells and logs are the same
pub record AreSameCells (old new : Classes) : Type 0 where
  pub class : new.class.cells.items ≡ old.class.cells.items
  pub next : new.next.cells.items ≡ old.next.cells.items
  pub size : new.size.cells.items ≡ old.size.cells.items

pub record AreSameLogs (old new : Classes) : Type 0 where
  pub class : new.class.log.items ≡ old.class.log.items
  pub next : new.next.log.items ≡ old.next.log.items
  pub size : new.size.log.items ≡ old.size.log.items

-- there is room for one more cell in each list
pub record HaveRoom (c : Classes) : Type 0 where
  pub class : vec_len c.class.cells < vec_capacity c.class.cells
  pub next : vec_len c.next.cells < vec_capacity c.next.cells
  pub size : vec_len c.size.cells < vec_capacity c.size.cells

-- one node more, which is a class of its own
pub record HasNode (old new : Classes) : Type 0 where
  pub class : new.class.cells.items ≡ old.class.cells.items ++ length old.class.cells.items ∷ []
  pub next : new.next.cells.items ≡ old.next.cells.items ++ length old.class.cells.items ∷ []
  pub size : new.size.cells.items ≡ old.size.cells.items ++ alone (length old.class.cells.items) ∷ []
