-- Levels: what an undo comes back to.
use Rattle.std.specs.Prelude.{◌≡◌, ℕ, ◌≤◌, List, [], length, map, take, drop}
use Rattle.std.specs.List.{All}
use Rattle.fm_bank.specs.Closure.{Shape}
use Rattle.fm_cells.specs.Forest.{trimmed}
use Rattle.fm_cells.specs.Logs.{HasLogged, restored}
use Rattle.fm_cells.specs.Rings.{own_or}
use Rattle.fm_cong.specs.Graphs.{Cells, IsWorking, cells_of, pairs_of}
use Rattle.fm_cong.specs.Tables.{HasGrown}
use Rattle.fm_cong.specs.declared.fact.Fact.{Fact}
use Rattle.fm_cong.specs.declared.mark.Mark.{Mark}
use Rattle.fm_cong.specs.declared.state.State.{State}

-- nothing waits, and each fact read is held
pub record IsSteady (shapes : List Shape) (c : Cells) : Type 0 where
  pub working : IsWorking shapes c []
  pub holds : All (λ (p : ℕ × ℕ). own_or c.class p.0 ≡ own_or c.class p.1) (pairs_of c.facts)

-- all registered terms are entered
pub record IsComplete (shapes : List Shape) (c : Cells) : Type 0 where
  pub steady : IsSteady shapes c
  pub all : c.entered ≡ length shapes

-- the cells as they were at a mark
abbrev pub cells_at : State → Mark → Cells
cells_at s m = record {
  class = restored (drop m.class s.classes.class.log.items) s.classes.class.cells.items;
  next = restored (drop m.next s.classes.next.log.items) s.classes.next.cells.items;
  size = restored (drop m.size s.classes.size.log.items) s.classes.size.cells.items;
  links = restored (drop m.links s.links.log.items) s.links.cells.items;
  entries = take m.table s.table.entries;
  facts = take m.facts s.facts.items;
  entered = m.entered;
  time = m.links;
}

-- the class of each node as it was at a mark
abbrev pub class_at : State → Mark → ℕ → ℕ
class_at s m = own_or (cells_at s m).class

pub record IsInside (s : State) (m : Mark) : Type 0 where
  pub class : m.class ≤ length s.classes.class.log.items
  pub next : m.next ≤ length s.classes.next.log.items
  pub size : m.size ≤ length s.classes.size.log.items
  pub links : m.links ≤ length s.links.log.items
  pub table : m.table ≤ length s.table.entries
  pub facts : m.facts ≤ length s.facts.items

-- one mark is no later than another
pub record IsBefore (m n : Mark) : Type 0 where
  pub class : m.class ≤ n.class
  pub next : m.next ≤ n.next
  pub size : m.size ≤ n.size
  pub links : m.links ≤ n.links
  pub table : m.table ≤ n.table
  pub facts : m.facts ≤ n.facts

pub record IsMarkOf (s : State) (m : Mark) : Type 0 where
  pub class : m.class ≡ length s.classes.class.log.items
  pub next : m.next ≡ length s.classes.next.log.items
  pub size : m.size ≡ length s.classes.size.log.items
  pub links : m.links ≡ length s.links.log.items
  pub table : m.table ≡ length s.table.entries
  pub facts : m.facts ≡ length s.facts.items
  pub entered : m.entered ≡ s.entered

-- what was written since is in the logs
pub record IsAfter (old new : State) : Type 0 where
  pub class : HasLogged old.classes.class.log.items old.classes.class.cells.items new.classes.class.log.items new.classes.class.cells.items
  pub next : HasLogged old.classes.next.log.items old.classes.next.cells.items new.classes.next.log.items new.classes.next.cells.items
  pub size : HasLogged old.classes.size.log.items old.classes.size.cells.items new.classes.size.log.items new.classes.size.cells.items
  pub links : HasLogged old.links.log.items old.links.cells.items new.links.log.items new.links.cells.items
  pub table : HasGrown old.table.entries new.table.entries
  pub facts : HasGrown old.facts.items new.facts.items

pub record IsRewound (s : State) (m : Mark) (new : State) : Type 0 where
  pub class : new.classes.class.cells.items ≡ restored (drop m.class s.classes.class.log.items) s.classes.class.cells.items
  pub next : new.classes.next.cells.items ≡ restored (drop m.next s.classes.next.log.items) s.classes.next.cells.items
  pub size : new.classes.size.cells.items ≡ restored (drop m.size s.classes.size.log.items) s.classes.size.cells.items
  pub links : new.links.cells.items ≡ restored (drop m.links s.links.log.items) s.links.cells.items
  pub class_log : new.classes.class.log.items ≡ take m.class s.classes.class.log.items
  pub next_log : new.classes.next.log.items ≡ take m.next s.classes.next.log.items
  pub size_log : new.classes.size.log.items ≡ take m.size s.classes.size.log.items
  pub links_log : new.links.log.items ≡ take m.links s.links.log.items
  pub table : new.table.entries ≡ take m.table s.table.entries
  pub facts : new.facts.items ≡ take m.facts s.facts.items
  pub entered : new.entered ≡ m.entered
  pub waiting : new.waiting.items ≡ []

-- an undo to a mark comes back to a steady state
pub record IsKept (shapes : List Shape) (s : State) (m : Mark) : Type 0 where
  pub inside : IsInside s m
  pub steady : IsSteady shapes (cells_at s m)

-- each node is of the class it was
abbrev pub HasSameClasses : State → State → Type 0
HasSameClasses old new = own_or new.classes.class.cells.items ≡ own_or old.classes.class.cells.items

-- what was written of the classes of nodes is in their log
abbrev pub LogsClasses : State → State → Type 0
LogsClasses old new = HasLogged old.classes.class.log.items old.classes.class.cells.items new.classes.class.log.items new.classes.class.cells.items

-- each node's class at each mark stays
abbrev pub KeepsClasses : State → State → Type 0
KeepsClasses old new = (m : Mark) → IsInside old m → class_at new m ≡ class_at old m

-- the classes are those at a mark, and those at each mark that isn't later stay
pub record RestoresClasses (old : State) (mark : Mark) (new : State) : Type 0 where
  pub now : own_or new.classes.class.cells.items ≡ class_at old mark
  pub before : (m : Mark) → IsBefore m mark → class_at new m ≡ class_at old m

-- each mark is kept
abbrev pub KeepsMarks : State → State → Type 0
KeepsMarks old new = (shapes : List Shape) (m : Mark) → IsKept shapes old m → IsKept shapes new m

-- each that isn't later than this one
abbrev pub KeepsMarksBefore : Mark → State → State → Type 0
KeepsMarksBefore mark old new = (shapes : List Shape) (m : Mark) → IsBefore m mark → IsKept shapes old m → IsKept shapes new m

abbrev pub KeepsSteady : State → State → Type 0
KeepsSteady old new = (shapes : List Shape) → IsSteady shapes (cells_of old) → IsSteady shapes (cells_of new)

-- the link of each node stays
abbrev pub KeepsLinks : State → State → Type 0
KeepsLinks old new = trimmed new.links.cells.items ≡ trimmed old.links.cells.items

-- nodes may be added, and nothing else has changed
pub record KeepsAll (old new : State) : Type 0 where
  pub steady : KeepsSteady old new
  pub marks : KeepsMarks old new
  pub inside : (m : Mark) → IsInside old m → IsInside new m
  pub classes : KeepsClasses old new
  pub quiet : new.waiting.items ≡ old.waiting.items
  pub facts : new.facts.items ≡ old.facts.items
  pub entered : new.entered ≡ old.entered
  pub nodes : length old.classes.class.cells.items ≤ length new.classes.class.cells.items
  pub links : KeepsLinks old new
  pub now : HasSameClasses old new

-- where all terms were entered, all are
abbrev pub StaysSettled : State → List Shape → State → List Shape → Type 0
StaysSettled old shapes new more = old.entered ≡ length shapes → new.entered ≡ length more

-- the facts at each mark
abbrev pub levels_of : List Fact → List Mark → List (List Fact)
levels_of facts marks = map (λ (m : Mark). take m.facts facts) marks

-- nothing is registered, read or joined; there are yes and no
pub record IsNothing (s : State) : Type 0 where
  pub steady : IsSteady [] (cells_of s)
  pub quiet : s.waiting.items ≡ []
  pub facts : s.facts.items ≡ []
  pub entered : s.entered ≡ 0
  pub objects : 2 ≤ length s.classes.class.cells.items
  pub links : trimmed s.links.cells.items ≡ []
