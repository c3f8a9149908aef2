-- The lines of a certificate's text behind the header, one by one, and where each may stand.
use Rattle.std.specs.Prelude.{◌≡◌, ℕ, List, [], ◌∷◌, ◌++◌, codes, map, Option, Some, None, Bool, true, false}
use Rattle.std.specs.List.{AllByRecursion, flat_map}
use Rattle.fm_base.specs.declared.interp.Table.{Table}
use Rattle.fm_cert.specs.declared.block.Block.{Block}
use Rattle.fm_cert.specs.declared.block.Claim.{Claim}
use Rattle.fm_cert.specs.declared.row.Next.{Next}
use Rattle.fm_cert.specs.declared.row.Row.{Row}
use Rattle.fm_cert.specs.Fits.{FitsLine, IsNumber}
use Rattle.fm_cert.specs.Spelling.{line_feed, spelling_of_number, spelling_of_numbers, spelling_of_line, spelling_of_exception}

abbrev pub spelling_of_row : Row → List ℕ
spelling_of_row (Row.Begin k) = codes "b" ++ spelling_of_number k ++ line_feed
spelling_of_row (Row.Body line) = spelling_of_line line
spelling_of_row Row.Unsat = codes "q unsat" ++ line_feed
spelling_of_row (Row.Sat sum) = codes "q sat" ++ spelling_of_number sum ++ line_feed
spelling_of_row (Row.Unknown instances decisions) = codes "q unknown" ++ spelling_of_number instances ++ spelling_of_number decisions ++ line_feed
spelling_of_row (Row.Sizes ks) = codes "z" ++ spelling_of_numbers ks ++ line_feed
spelling_of_row (Row.Default value) = codes "d" ++ spelling_of_number value ++ line_feed
spelling_of_row (Row.Exception tuple value) = spelling_of_exception (tuple, value)

abbrev pub exception_row : (List ℕ × ℕ) → Row
exception_row e = Row.Exception e.0 e.1

abbrev pub rows_of_table : Table → List Row
rows_of_table t = Row.Default t.default ∷ map exception_row t.except

abbrev pub rows_of_claim : Claim → List Row
rows_of_claim Claim.Unsat = Row.Unsat ∷ []
rows_of_claim (Claim.Sat sum model) = Row.Sat sum ∷ Row.Sizes model.sizes ∷ flat_map rows_of_table model.tables
rows_of_claim (Claim.Unknown instances decisions) = Row.Unknown instances decisions ∷ []

abbrev pub rows_of_block : Block → List Row
rows_of_block b = Row.Begin b.number ∷ map Row.Body b.lines ++ rows_of_claim b.claim

abbrev pub rows_of : List Block → List Row
rows_of blocks = flat_map rows_of_block blocks

-- what may come behind a line
abbrev pub after : Next → Row → Option Next
after Next.Blocks (Row.Begin k) = Some Next.Lines
after Next.Lines (Row.Body line) = Some Next.Lines
after Next.Lines Row.Unsat = Some Next.Blocks
after Next.Lines (Row.Unknown instances decisions) = Some Next.Blocks
after Next.Lines (Row.Sat sum) = Some Next.Sizes
after Next.Sizes (Row.Sizes ks) = Some Next.Tables
after Next.Tables (Row.Begin k) = Some Next.Lines
after Next.Tables (Row.Default value) = Some Next.Exceptions
after Next.Exceptions (Row.Begin k) = Some Next.Lines
after Next.Exceptions (Row.Default value) = Some Next.Exceptions
after Next.Exceptions (Row.Exception tuple value) = Some Next.Exceptions
after _ _ = None

abbrev pub after_all : Option Next → List Row → Option Next
after_all next [] = next
after_all None (r ∷ rs) = None
after_all (Some next) (r ∷ rs) = after_all (after next r) rs

-- whether the text may end
abbrev pub may_end : Next → Bool
may_end Next.Blocks = true
may_end Next.Lines = false
may_end Next.Sizes = false
may_end Next.Tables = true
may_end Next.Exceptions = true

-- what has a spelling
abbrev pub FitsRow : Row → Type 0
FitsRow (Row.Begin k) = IsNumber k
FitsRow (Row.Body line) = FitsLine line
FitsRow Row.Unsat = Unit {0}
FitsRow (Row.Sat sum) = IsNumber sum
FitsRow (Row.Unknown instances decisions) = IsNumber instances × IsNumber decisions
FitsRow (Row.Sizes ks) = AllByRecursion IsNumber ks
FitsRow (Row.Default value) = IsNumber value
FitsRow (Row.Exception tuple value) = AllByRecursion IsNumber tuple × IsNumber value

-- a line in the grammar at the front of a text, and what stands behind it
pub record IsFirstRow (text : List ℕ) (row : Row) (more : List ℕ) : Type 0 where
  pub is : text ≡ spelling_of_row row ++ more
  pub fits : FitsRow row

abbrev pub HasNoRow : List ℕ → Type 0
HasNoRow text = (row : Row) (more : List ℕ) → IsFirstRow text row more → ⊥
