-- What was read of a block, and what may come next.
use Rattle.std.specs.Prelude.{◌≡◌, ℕ, ◌+◌, ◌≤◌, ◌<◌, Bool, true, false, ◌&&◌, List, [], ◌∷◌, ◌++◌, length, map, Some, None}
use Rattle.std.specs.List.{AllByRecursion, flat_map}
use Rattle.fm_base.specs.declared.interp.Table.{Table}
use Rattle.fm_cert.specs.declared.block.Block.{Block}
use Rattle.fm_cert.specs.declared.block.Line.{Line}
use Rattle.fm_cert.specs.declared.reading.Reading.{Reading}
use Rattle.fm_cert.specs.declared.row.Next.{Next}
use Rattle.fm_cert.specs.declared.row.Row.{Row}
use Rattle.fm_cert.specs.Fits.{FitsBlock}
use Rattle.fm_cert.specs.Blockwise.{IsAt, IsCertificate, Left, begins_block}
use Rattle.fm_cert.specs.Outside.{CannotGoOn, IsOutside, Spells}
use Rattle.fm_cert.specs.Rows.{FitsRow, after, after_all, may_end, rows_of_block, rows_of_claim, rows_of_table, spelling_of_row}
use Rattle.fm_cert.specs.Spelling.{header, spelling_of_block}

-- rows and a place, for clauses of the code
abbrev pub blocks_next : Next
blocks_next = Next.Blocks

abbrev pub body_row : Line → Row
body_row line = Row.Body line

abbrev pub unsat_row : Row
unsat_row = Row.Unsat

abbrev pub unknown_row : ℕ → ℕ → Row
unknown_row instances decisions = Row.Unknown instances decisions

abbrev pub sum_row : ℕ → Row
sum_row sum = Row.Sat sum

abbrev pub sizes_row : List ℕ → Row
sizes_row ks = Row.Sizes ks

abbrev pub default_row : ℕ → Row
default_row v = Row.Default v

abbrev pub tuple_row : List ℕ → ℕ → Row
tuple_row tuple v = Row.Exception tuple v

abbrev pub is_begin : Row → Bool
is_begin (Row.Begin k) = true
is_begin (Row.Body line) = false
is_begin Row.Unsat = false
is_begin (Row.Sat sum) = false
is_begin (Row.Unknown i d) = false
is_begin (Row.Sizes ks) = false
is_begin (Row.Default v) = false
is_begin (Row.Exception tuple v) = false

abbrev pub front_rows : Reading → List Row
front_rows r = Row.Begin r.number ∷ map Row.Body r.lines

abbrev pub model_rows : Reading → List Row
model_rows r = Row.Sat r.sum ∷ Row.Sizes r.sizes ∷ flat_map rows_of_table r.tables

abbrev pub last_table : Reading → Table
last_table r = record { default = r.default; except = r.except }

-- the lines that were read; in place Tables no table was begun, in place Exceptions the last one isn't whole
abbrev pub rows_at : Next → Reading → List Row
rows_at Next.Blocks r = front_rows r ++ rows_of_claim r.claim
rows_at Next.Lines r = front_rows r
rows_at Next.Sizes r = front_rows r ++ Row.Sat r.sum ∷ []
rows_at Next.Tables r = front_rows r ++ model_rows r
rows_at Next.Exceptions r = front_rows r ++ (model_rows r ++ rows_of_table (last_table r))

abbrev pub rows_so_far : Reading → List Row
rows_so_far r = rows_at r.place r

-- one more line was read, in its place
pub record HasTaken (old new : Reading) (row : Row) : Type 0 where
  pub next : after old.place row ≡ Some new.place
  pub rows : rows_so_far new ≡ rows_so_far old ++ row ∷ []

-- where a line can't stand
abbrev pub HasNoPlace : Reading → Row → Type 0
HasNoPlace r row = after r.place row ≡ None

-- the block ends here: it may, and what stands behind is another block's or nothing
abbrev pub ends_at : Next → List ℕ → Bool
ends_at next rest = may_end next && begins_block rest

-- the text is these rows, and the rest
pub record IsPartRead (text rest : List ℕ) (rows : List Row) (next : Next) (from line : ℕ) : Type 0 where
  pub whole : text ≡ flat_map spelling_of_row rows ++ rest
  pub fits : AllByRecursion FitsRow rows
  pub in_place : after_all (Some Next.Blocks) rows ≡ Some next
  pub number : line ≡ from + length rows
  pub bound : line + length rest ≤ from + length text

-- a block at the front of a text whose first line has the number `from`, and what stands behind it
pub record IsFirstBlock (text : List ℕ) (from : ℕ) (block : Block) (rest : List ℕ) (line : ℕ) : Type 0 where
  pub whole : text ≡ spelling_of_block block ++ rest
  pub fits : FitsBlock block
  pub ends : begins_block rest ≡ true
  pub number : line ≡ from + length (rows_of_block block)
  pub bound : line + length rest ≤ from + length text
  pub shorter : length rest < length text

-- the first line outside, where the text stands behind whole blocks
pub record LeavesFrom (text : List ℕ) (from line : ℕ) : Type 0 where
  pub rows : List Row
  pub rest : List ℕ
  pub next : Next
  pub whole : text ≡ flat_map spelling_of_row rows ++ rest
  pub fits : AllByRecursion FitsRow rows
  pub in_place : after_all (Some Next.Blocks) rows ≡ Some next
  pub number : line ≡ from + length rows
  pub stops : CannotGoOn next rest

-- the text is some rows, and the rest
pub record IsScanned (text rest : List ℕ) (next : Next) (line : ℕ) : Type 0 where
  pub rows : List Row
  pub part : IsPartRead text rest rows next 2 line

-- blocks that are kept, beside a reader that has read just these
abbrev pub GoesOn : Left → List Block → Left → List Block → Type 0
GoesOn old blocks new more = (text : List ℕ) → IsAt text blocks old → IsAt text more new

abbrev pub ReadsAll : Left → List Block → List Block → Type 0
ReadsAll old blocks more = (text : List ℕ) → IsAt text blocks old → Spells text more

abbrev pub StopsBehind : Left → List Block → ℕ → Type 0
StopsBehind old blocks line = (text : List ℕ) → IsAt text blocks old → IsOutside text line

-- what a text under the header is
abbrev pub LeavesBehind : List ℕ → ℕ → Type 0
LeavesBehind behind line = (text : List ℕ) → text ≡ header ++ behind → IsOutside text line

abbrev pub IsBehindHeader : List ℕ → Type 0
IsBehindHeader behind = (text : List ℕ) → text ≡ header ++ behind → IsCertificate text
