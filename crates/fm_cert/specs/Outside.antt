-- Where a text leaves the grammar of certificates.
use Rattle.std.specs.Prelude.{◌≡◌, ℕ, ◌+◌, false, List, [], ◌++◌, length, ◌⊎◌, Some, None}
use Rattle.std.specs.List.{AllByRecursion, flat_map}
use Rattle.fm_cert.specs.declared.block.Block.{Block}
use Rattle.fm_cert.specs.declared.row.Next.{Next}
use Rattle.fm_cert.specs.declared.row.Row.{Row}
use Rattle.fm_cert.specs.Fits.{AreSpelled}
use Rattle.fm_cert.specs.Rows.{FitsRow, after, after_all, may_end, spelling_of_row}
use Rattle.fm_cert.specs.Spelling.{header, spelling_of_certificate}

-- The rest of the text doesn't go on as a certificate may: no line in its place stands there, and the text may not end.
pub record CannotGoOn (next : Next) (rest : List ℕ) : Type 0 where
  pub no_line : (row : Row) (more : List ℕ) → FitsRow row → rest ≡ spelling_of_row row ++ more → after next row ≡ None
  pub no_end : rest ≡ [] → may_end next ≡ false

-- The lines before this one are in the grammar, and it isn't. Lines are numbered from 1.
pub record LeavesAt (text : List ℕ) (line : ℕ) : Type 0 where
  pub rows : List Row
  pub rest : List ℕ
  pub next : Next
  pub whole : text ≡ header ++ flat_map spelling_of_row rows ++ rest
  pub fits : AllByRecursion FitsRow rows
  pub in_place : after_all (Some Next.Blocks) rows ≡ Some next
  pub number : line ≡ 2 + length rows
  pub stops : CannotGoOn next rest

-- The first line isn't the header, or a later one is the first that is outside.
abbrev pub IsOutside : List ℕ → ℕ → Type 0
IsOutside text line = ((line ≡ 1) × ((more : List ℕ) → text ≡ header ++ more → ⊥)) ⊎ LeavesAt text line

-- these blocks are what the text says
abbrev pub Spells : List ℕ → List Block → Type 0
Spells text blocks = AreSpelled blocks × (text ≡ spelling_of_certificate blocks)

-- A text that is spelled by blocks isn't outside the grammar.
abbrev pub NoTextIsBoth : Type 0
NoTextIsBoth = (text : List ℕ) (line : ℕ) (blocks : List Block) → Spells text blocks → IsOutside text line → ⊥

-- A text leaves the grammar at one line.
abbrev pub OutsideIsOneLine : Type 0
OutsideIsOneLine = (text : List ℕ) (line other : ℕ) → IsOutside text line → IsOutside text other → line ≡ other

-- A text is spelled by one list of blocks.
abbrev pub SpellingIsOfOne : Type 0
SpellingIsOfOne = (text : List ℕ) (blocks others : List Block) → Spells text blocks → Spells text others → blocks ≡ others
