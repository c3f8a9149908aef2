-- What is said of a state as a whole: its classes, its links and the facts it has read.
use Rattle.std.specs.Prelude.{◌≡◌, ◌<◌, ◌==◌, ℕ, Bool, true, false, if◌then◌else◌, List, length, Option, Some, None}
use Rattle.fm_bank.specs.Closure.{Follows, Shape, no, object, yes}
use Rattle.fm_cells.specs.Forest.{link_of}
use Rattle.fm_cells.specs.Rings.{own_or, root_or}
use Rattle.fm_cells.specs.declared.rings.Root.{Root}
use Rattle.fm_cells.specs.declared.edge.Cause.{Cause}
use Rattle.fm_cong.specs.Graphs.{IsCoarser, IsWorking, cells_of, pairs_of, roots}
use Rattle.fm_cong.specs.Paths.{IsJustified}
use Rattle.fm_cong.specs.declared.state.State.{State}

-- what holds while pairs wait to be joined
abbrev pub IsAtWork : List Shape → State → Type 0
IsAtWork shapes s = IsWorking shapes (cells_of s) s.waiting.items

abbrev pub count_of : State → ℕ
count_of s = length s.classes.class.cells.items

abbrev pub IsNode : State → ℕ → Type 0
IsNode s node = node < count_of s

abbrev pub class_in : State → ℕ → ℕ
class_in s = own_or s.classes.class.cells.items

abbrev pub root_in : State → ℕ → Root
root_in s = root_or s.classes.size.cells.items

abbrev pub AreOfOneClass : State → ℕ → ℕ → Type 0
AreOfOneClass s a b = class_in s a ≡ class_in s b

-- the facts read relate two nodes
abbrev pub AreRelated : List Shape → State → ℕ → ℕ → Type 0
AreRelated shapes s a b = Follows shapes (pairs_of s.facts.items) a b

-- a link between two nodes that is made next would be justified
abbrev pub IsReason : List Shape → State → Cause → ℕ → ℕ → Type 0
IsReason shapes s cause a b = IsJustified shapes s.facts.items (link_of s.links.cells.items) cause (length s.links.log.items) a b

-- nodes of one class stay so
abbrev pub KeepsJoined : State → State → Type 0
KeepsJoined old new = IsCoarser old.classes.class.cells.items new.classes.class.cells.items

-- there are fewer classes
abbrev pub class_count : State → ℕ
class_count s = roots (class_in s) (count_of s)

abbrev pub HasFewerClasses : State → State → Type 0
HasFewerClasses old new = class_count new < class_count old

-- by the classes of nodes: whether a node is joined with yes, else whether it is joined with no
abbrev pub truth_by : (ℕ → ℕ) → ℕ → Option Bool
truth_by class x = if class x == class yes then Some true else (if class x == class no then Some false else None)
