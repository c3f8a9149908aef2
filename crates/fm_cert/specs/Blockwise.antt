-- A text that is read block by block.
use Rattle.std.specs.Prelude.{◌≡◌, ℕ, ◌+◌, ◌==◌, ◌⊎◌, Bool, true, List, [], ◌∷◌, ◌++◌, length}
use Rattle.std.specs.List.{flat_map}
use Rattle.fm_cert.specs.declared.block.Block.{Block}
use Rattle.fm_cert.specs.Fits.{AreSpelled}
use Rattle.fm_cert.specs.Outside.{IsOutside, Spells}
use Rattle.fm_cert.specs.Rows.{rows_of}
use Rattle.fm_cert.specs.Spelling.{header, spelling_of_block}

-- where the reader stands: the bytes that it hasn't read, and the number of their first line
pub record Left : Type 0 where
  pub rest : List ℕ
  pub line : ℕ

-- the end, or the first byte of a line `b K`
abbrev pub begins_block : List ℕ → Bool
begins_block [] = true
begins_block (b ∷ bs) = b == 98

-- the reader has read these blocks of the text, and stands behind them
pub record IsAt (text : List ℕ) (blocks : List Block) (left : Left) : Type 0 where
  pub whole : text ≡ header ++ flat_map spelling_of_block blocks ++ left.rest
  pub spelled : AreSpelled blocks
  pub number : left.line ≡ 2 + length (rows_of blocks)
  pub ends : (blocks ≡ []) ⊎ (begins_block left.rest ≡ true)

-- wherever the reader stands, this block is the next, and the reader stands behind it afterwards
abbrev pub IsNext : Left → Block → Left → Type 0
IsNext old block new = (text : List ℕ) (blocks : List Block) → IsAt text blocks old → IsAt text (blocks ++ block ∷ []) new

-- the blocks that were read are all that the text says
abbrev pub IsWhole : Left → Type 0
IsWhole left = (text : List ℕ) (blocks : List Block) → IsAt text blocks left → Spells text blocks

-- this is the line at which the text leaves the grammar
abbrev pub StopsAt : Left → ℕ → Type 0
StopsAt left line = (text : List ℕ) (blocks : List Block) → IsAt text blocks left → IsOutside text line

-- some blocks are what the text says
abbrev pub IsCertificate : List ℕ → Type 0
IsCertificate text = (blocks : List Block) × Spells text blocks

-- The blocks that were read are the first ones of those that the whole text spells.
abbrev pub ReadBlocksComeFirst : Type 0
ReadBlocksComeFirst = (text : List ℕ) (blocks : List Block) (left : Left) → IsAt text blocks left → IsCertificate text → (more : List Block) × Spells text (blocks ++ more)
