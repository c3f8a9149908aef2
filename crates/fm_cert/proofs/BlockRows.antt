-- A block and its lines: they have one text, fit together, and lead from the place before a block to one behind it.
use Rattle.std.proofs.Common.{◌≡◌, ℕ, true, List, [], ◌∷◌, ◌++◌, map, Option, Some, None, refl, ap, ◌∙◌, append-nil}
use Rattle.std.specs.List.{AllByRecursion, flat_map}
use Rattle.std.proofs.lemmas.Grind.{flat_map-append}
use Rattle.std.proofs.lemmas.Bool.{false≢true}
use Rattle.fm_base.specs.declared.interp.Table.{Table}
use Rattle.fm_cert.specs.declared.block.Block.{Block}
use Rattle.fm_cert.specs.declared.block.Claim.{Claim}
use Rattle.fm_cert.specs.declared.block.Line.{Line}
use Rattle.fm_cert.specs.declared.row.Next.{Next}
use Rattle.fm_cert.specs.declared.row.Row.{Row}
use Rattle.fm_cert.specs.Fits.{AreSpelled, FitsBlock, FitsClaim, FitsException, FitsLine, FitsTable}
use Rattle.fm_cert.specs.Rows.{FitsRow, after, after_all, exception_row, may_end, rows_of, rows_of_block, rows_of_claim, rows_of_table, spelling_of_row}
use Rattle.fm_cert.specs.Spelling.{spelling_of_block, spelling_of_claim, spelling_of_exception, spelling_of_line, spelling_of_table}
use Rattle.fm_cert.proofs.Taken.{all_join, all_parts}

-- the text
lines_text : (lines : List Line) → flat_map spelling_of_row (map Row.Body lines) ≡ flat_map spelling_of_line lines
lines_text [] = refl
lines_text (l ∷ lines) = ap (λ (z : List ℕ). spelling_of_line l ++ z) (lines_text lines)

exceptions_text : (es : List (List ℕ × ℕ)) → flat_map spelling_of_row (map exception_row es) ≡ flat_map spelling_of_exception es
exceptions_text [] = refl
exceptions_text (e ∷ es) = ap (λ (z : List ℕ). spelling_of_exception e ++ z) (exceptions_text es)

tables_text : (ts : List Table) → flat_map spelling_of_row (flat_map rows_of_table ts) ≡ flat_map spelling_of_table ts
tables_text [] = refl
tables_text (t ∷ ts) = flat_map-append spelling_of_row (rows_of_table t) (flat_map rows_of_table ts) ∙ (λ i. (spelling_of_row (Row.Default t.default) ++ exceptions_text t.except i) ++ tables_text ts i)

claim_text : (c : Claim) → flat_map spelling_of_row (rows_of_claim c) ≡ spelling_of_claim c
claim_text Claim.Unsat = append-nil (spelling_of_row Row.Unsat)
claim_text (Claim.Sat sum model) = ap (λ (z : List ℕ). spelling_of_row (Row.Sat sum) ++ (spelling_of_row (Row.Sizes model.sizes) ++ z)) (tables_text model.tables)
claim_text (Claim.Unknown i d) = append-nil (spelling_of_row (Row.Unknown i d))

pub block_text : (b : Block) → flat_map spelling_of_row (rows_of_block b) ≡ spelling_of_block b
block_text b =
    let begin = Row.Begin b.number ∷ map Row.Body b.lines in
    flat_map-append spelling_of_row begin (rows_of_claim b.claim) ∙ (λ i. (spelling_of_row (Row.Begin b.number) ++ lines_text b.lines i) ++ claim_text b.claim i)

pub blocks_text : (bs : List Block) → flat_map spelling_of_row (rows_of bs) ≡ flat_map spelling_of_block bs
blocks_text [] = refl
blocks_text (b ∷ bs) = flat_map-append spelling_of_row (rows_of_block b) (rows_of bs) ∙ (λ i. block_text b i ++ blocks_text bs i)

-- what fits
lines_fit : (lines : List Line) → AllByRecursion FitsRow (map Row.Body lines) → AllByRecursion FitsLine lines
lines_fit [] h = tt
lines_fit (l ∷ lines) h = (h.0, lines_fit lines h.1)

line_rows_fit : (lines : List Line) → AllByRecursion FitsLine lines → AllByRecursion FitsRow (map Row.Body lines)
line_rows_fit [] h = tt
line_rows_fit (l ∷ lines) h = (h.0, line_rows_fit lines h.1)

exceptions_fit : (es : List (List ℕ × ℕ)) → AllByRecursion FitsRow (map exception_row es) → AllByRecursion FitsException es
exceptions_fit [] h = tt
exceptions_fit (e ∷ es) h = (record { tuple = h.0.0; value = h.0.1 }, exceptions_fit es h.1)

exception_rows_fit : (es : List (List ℕ × ℕ)) → AllByRecursion FitsException es → AllByRecursion FitsRow (map exception_row es)
exception_rows_fit [] h = tt
exception_rows_fit (e ∷ es) h = ((h.0.tuple, h.0.value), exception_rows_fit es h.1)

tables_fit : (ts : List Table) → AllByRecursion FitsRow (flat_map rows_of_table ts) → AllByRecursion FitsTable ts
tables_fit [] h = tt
tables_fit (t ∷ ts) h =
    let p = all_parts FitsRow (rows_of_table t) (flat_map rows_of_table ts) h in
    (record { default = p.0.0; except = exceptions_fit t.except p.0.1 }, tables_fit ts p.1)

table_rows_fit : (ts : List Table) → AllByRecursion FitsTable ts → AllByRecursion FitsRow (flat_map rows_of_table ts)
table_rows_fit [] h = tt
table_rows_fit (t ∷ ts) h = all_join FitsRow (rows_of_table t) (flat_map rows_of_table ts) (h.0.default, exception_rows_fit t.except h.0.except) (table_rows_fit ts h.1)

claim_fits : (c : Claim) → AllByRecursion FitsRow (rows_of_claim c) → FitsClaim c
claim_fits Claim.Unsat h = tt
claim_fits (Claim.Sat sum model) h = (h.0, h.1.0, tables_fit model.tables h.1.1)
claim_fits (Claim.Unknown i d) h = h.0

claim_rows_fit : (c : Claim) → FitsClaim c → AllByRecursion FitsRow (rows_of_claim c)
claim_rows_fit Claim.Unsat h = (tt, tt)
claim_rows_fit (Claim.Sat sum model) h = (h.0, (h.1, table_rows_fit model.tables h.2))
claim_rows_fit (Claim.Unknown i d) h = (h, tt)

pub block_fits : (b : Block) → AllByRecursion FitsRow (rows_of_block b) → FitsBlock b
block_fits b h =
    let p = all_parts FitsRow (Row.Begin b.number ∷ map Row.Body b.lines) (rows_of_claim b.claim) h in
    record { number = p.0.0; lines = lines_fit b.lines p.0.1; claim = claim_fits b.claim p.1 }

pub block_rows_fit : (b : Block) → FitsBlock b → AllByRecursion FitsRow (rows_of_block b)
block_rows_fit b h = all_join FitsRow (Row.Begin b.number ∷ map Row.Body b.lines) (rows_of_claim b.claim) (h.number, line_rows_fit b.lines h.lines) (claim_rows_fit b.claim h.claim)

pub rows_fit : (bs : List Block) → AreSpelled bs → AllByRecursion FitsRow (rows_of bs)
rows_fit [] h = tt
rows_fit (b ∷ bs) h = all_join FitsRow (rows_of_block b) (rows_of bs) (block_rows_fit b h.0) (rows_fit bs h.1)

pub blocks_fit : (bs : List Block) → AllByRecursion FitsRow (rows_of bs) → AreSpelled bs
blocks_fit [] h = tt
blocks_fit (b ∷ bs) h =
    let p = all_parts FitsRow (rows_of_block b) (rows_of bs) h in
    (block_fits b p.0, blocks_fit bs p.1)

-- the places
pub after_append : (start : Option Next) (rs ss : List Row) → after_all start (rs ++ ss) ≡ after_all (after_all start rs) ss
after_append start [] ss = refl
after_append None (r ∷ rs) [] = refl
after_append None (r ∷ rs) (s ∷ ss) = refl
after_append (Some n) (r ∷ rs) ss = after_append (after n r) rs ss

pub nowhere : (rs : List Row) (n : Next) → after_all None rs ≡ Some n → ⊥
nowhere [] n e = cc
nowhere (r ∷ rs) n e = cc

lines_after : (lines : List Line) → after_all (Some Next.Lines) (map Row.Body lines) ≡ Some Next.Lines
lines_after [] = refl
lines_after (l ∷ lines) = lines_after lines

exceptions_after : (es : List (List ℕ × ℕ)) → after_all (Some Next.Exceptions) (map exception_row es) ≡ Some Next.Exceptions
exceptions_after [] = refl
exceptions_after (e ∷ es) = exceptions_after es

tables_after : (ts : List Table) → after_all (Some Next.Exceptions) (flat_map rows_of_table ts) ≡ Some Next.Exceptions
tables_after [] = refl
tables_after (t ∷ ts) = after_append (Some Next.Exceptions) (map exception_row t.except) (flat_map rows_of_table ts) ∙ (ap (λ (n : Option Next). after_all n (flat_map rows_of_table ts)) (exceptions_after t.except) ∙ tables_after ts)

-- the place behind a block
abbrev pub behind_tables : List Table → Next
behind_tables [] = Next.Tables
behind_tables (t ∷ ts) = Next.Exceptions

abbrev pub behind_claim : Claim → Next
behind_claim Claim.Unsat = Next.Blocks
behind_claim (Claim.Sat sum model) = behind_tables model.tables
behind_claim (Claim.Unknown i d) = Next.Blocks

model_after : (ts : List Table) → after_all (Some Next.Tables) (flat_map rows_of_table ts) ≡ Some (behind_tables ts)
model_after [] = refl
model_after (t ∷ ts) = after_append (Some Next.Exceptions) (map exception_row t.except) (flat_map rows_of_table ts) ∙ (ap (λ (n : Option Next). after_all n (flat_map rows_of_table ts)) (exceptions_after t.except) ∙ tables_after ts)

claim_after : (c : Claim) → after_all (Some Next.Lines) (rows_of_claim c) ≡ Some (behind_claim c)
claim_after Claim.Unsat = refl
claim_after (Claim.Sat sum model) = model_after model.tables
claim_after (Claim.Unknown i d) = refl

tables_end : (ts : List Table) → may_end (behind_tables ts) ≡ true
tables_end [] = refl
tables_end (t ∷ ts) = refl

claim_ends : (c : Claim) → may_end (behind_claim c) ≡ true
claim_ends Claim.Unsat = refl
claim_ends (Claim.Sat sum model) = tables_end model.tables
claim_ends (Claim.Unknown i d) = refl

pub begins_after : (n : Next) (k : ℕ) → may_end n ≡ true → after n (Row.Begin k) ≡ Some Next.Lines
begins_after Next.Blocks k e = refl
begins_after Next.Lines k e = absurd (false≢true e)
begins_after Next.Sizes k e = absurd (false≢true e)
begins_after Next.Tables k e = refl
begins_after Next.Exceptions k e = refl

block_after : (b : Block) (n : Next) → may_end n ≡ true → after_all (Some n) (rows_of_block b) ≡ Some (behind_claim b.claim)
block_after b n e = ap (λ (o : Option Next). after_all o (map Row.Body b.lines ++ rows_of_claim b.claim)) (begins_after n b.number e) ∙ (after_append (Some Next.Lines) (map Row.Body b.lines) (rows_of_claim b.claim) ∙ (ap (λ (o : Option Next). after_all o (rows_of_claim b.claim)) (lines_after b.lines) ∙ claim_after b.claim))

-- whole blocks lead to a place where the text may end
pub blocks_after : (bs : List Block) (n : Next) → may_end n ≡ true → (m : Next) × (after_all (Some n) (rows_of bs) ≡ Some m) × (may_end m ≡ true)
blocks_after [] n e = (n, refl, e)
blocks_after (b ∷ bs) n e =
    let rest = blocks_after bs (behind_claim b.claim) (claim_ends b.claim) in
    (rest.0, after_append (Some n) (rows_of_block b) (rows_of bs) ∙ (ap (λ (o : Option Next). after_all o (rows_of bs)) (block_after b n e) ∙ rest.1), rest.2)
