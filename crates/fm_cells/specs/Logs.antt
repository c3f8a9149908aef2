-- A log of writes to the cells of a list: the cell, and what stood there. The newest write is the last.
use Rattle.std.specs.Prelude.{◌≡◌, ◌<◌, ℕ, ◌⊎◌, List, [], ◌∷◌, ◌++◌, length, slice_set}
use Rattle.std.specs.List.{All, Contains, slice_index_or}

-- the cells once the writes of a log are taken back
abbrev pub restored : {X : Type 0} → List (ℕ × X) → List X → List X
restored [] cells = cells
restored (e ∷ log) cells = slice_set (restored log cells) e.0 e.1

-- each entry is of one of the cells
abbrev pub AreOfCells : {X : Type 0} → List X → List (ℕ × X) → Type 0
AreOfCells {X} cells log = All (λ (e : ℕ × X). e.0 < length cells) log

-- what was written is in the log, behind what was there
pub record HasLogged {X : Type 0} (old_log : List (ℕ × X)) (old : List X) (new_log : List (ℕ × X)) (new : List X) : Type 0 where
  pub tail : List (ℕ × X)
  pub grown : new_log ≡ old_log ++ tail
  pub back : restored tail new ≡ old

-- where a cell has changed, the log has it, with what stood there before
abbrev pub WereWritten : {X : Type 0} → List (ℕ × X) → List X → List X → Type 0
WereWritten {X} log before after = (x : ℕ) (d : X) → (slice_index_or before x d ≡ slice_index_or after x d) ⊎ Contains log (x, slice_index_or before x d)
