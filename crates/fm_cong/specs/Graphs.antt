-- The cells of an e-graph, and what holds of them.
use Rattle.std.specs.Prelude.{◌≡◌, ℕ, zero, suc, ◌+◌, ◌<◌, ◌==◌, if◌then◌else◌, List, length, take, Option}
use Rattle.std.specs.List.{All}
use Rattle.fm_bank.specs.Closure.{Follows, Shape}
use Rattle.fm_bank.specs.Terms.{Term}
use Rattle.fm_cells.specs.Forest.{AreWithin, link_of}
use Rattle.fm_cells.specs.Logs.{HasLogged}
use Rattle.fm_cells.specs.Rings.{AreRings, own_or, root_or}
use Rattle.fm_cells.specs.declared.edge.Edge.{Edge}
use Rattle.fm_cells.specs.declared.rings.Root.{Root}
pub use Rattle.fm_cong.specs.Facts.{pairs_of}
use Rattle.fm_cong.specs.Paths.{IsForest}
use Rattle.fm_cong.specs.Tables.{HasGrown, IsEntering, IsKnown, IsTable, find_in}
use Rattle.fm_cong.specs.declared.fact.Fact.{Fact}
use Rattle.fm_cong.specs.declared.state.State.{State}

-- all cells that an undo takes back, without their logs
pub record Cells : Type 0 where
  pub class : List ℕ
  pub next : List ℕ
  pub size : List Root
  pub links : List (Option Edge)
  pub entries : List (Term × ℕ)
  pub facts : List Fact
  pub entered : ℕ
  pub time : ℕ

abbrev pub cells_of : State → Cells
cells_of s = record { class = s.classes.class.cells.items; next = s.classes.next.cells.items; size = s.classes.size.cells.items; links = s.links.cells.items; entries = s.table.entries; facts = s.facts.items; entered = s.entered; time = length s.links.log.items }

-- what holds while pairs wait to be joined: nothing is joined that does not follow, and each congruence of the terms entered
-- is seen or waits
pub record IsWorking (shapes : List Shape) (c : Cells) (waiting : List (ℕ × ℕ)) : Type 0 where
  pub nexts : length c.next ≡ length c.class
  pub sizes : length c.size ≡ length c.class
  pub linked : length c.links ≡ length c.class
  pub known : All (IsKnown (length c.class)) shapes
  pub below : (x : ℕ) → x < length c.class → own_or c.class x < length c.class
  pub rings : AreRings (own_or c.next) (own_or c.class) (root_or c.size)
  pub sound : (x : ℕ) → Follows shapes (pairs_of c.facts) x (own_or c.class x)
  pub forest : IsForest shapes c.facts (link_of c.links) (own_or c.class) c.time
  pub within : AreWithin c.links
  pub entering : IsEntering shapes (own_or c.class) c.entries waiting
  pub table : IsTable (take c.entered shapes) (own_or c.class) (find_in c.entries) waiting

-- what was written is in the logs
pub record Extends (old new : State) : Type 0 where
  pub class : HasLogged old.classes.class.log.items old.classes.class.cells.items new.classes.class.log.items new.classes.class.cells.items
  pub next : HasLogged old.classes.next.log.items old.classes.next.cells.items new.classes.next.log.items new.classes.next.cells.items
  pub size : HasLogged old.classes.size.log.items old.classes.size.cells.items new.classes.size.log.items new.classes.size.cells.items
  pub links : HasLogged old.links.log.items old.links.cells.items new.links.log.items new.links.cells.items
  pub table : HasGrown old.table.entries new.table.entries
  pub facts : new.facts.items ≡ old.facts.items
  pub entered : new.entered ≡ old.entered

-- how many numbers below a count are numbers of classes
abbrev pub roots : (ℕ → ℕ) → ℕ → ℕ
roots class zero = 0
roots class (suc n) = (if class n == n then 1 else 0) + roots class n

abbrev pub IsCoarser : List ℕ → List ℕ → Type 0
IsCoarser old new = (x y : ℕ) → own_or old x ≡ own_or old y → own_or new x ≡ own_or new y

-- a pair of nodes below a count
abbrev pub IsPairBelow : ℕ → ℕ × ℕ → Type 0
IsPairBelow count p = (p.0 < count) × (p.1 < count)
