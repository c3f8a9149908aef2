-- A block that is read line by line: what stands before, at and behind the line that is read.
use Rattle.std.proofs.Common.{◌≡◌, ℕ, ◌+◌, ◌<◌, true, false, List, [], ◌∷◌, ◌++◌, length, Option, Some, None, inl, inr, refl, sym, ap, subst, ◌∙◌, append_assoc, append-nil, arith}
use Rattle.std.specs.List.{flat_map, join_with_byte}
use Rattle.std.proofs.lemmas.Grind.{flat_map-append}
use Rattle.std.proofs.lemmas.Bool.{and_from, and_parts, both_ways, cases_Bool, false≢true}
use Rattle.std.proofs.lemmas.List.{length-append}
use Rattle.fm_cert.specs.declared.block.Block.{Block}
use Rattle.fm_cert.specs.declared.block.Line.{Line}
use Rattle.fm_cert.specs.declared.row.Next.{Next}
use Rattle.fm_cert.specs.declared.row.Row.{Row}
use Rattle.fm_cert.specs.Blockwise.{begins_block}
use Rattle.fm_cert.specs.Outside.{CannotGoOn}
use Rattle.fm_cert.specs.Parts.{parts_of_row}
use Rattle.fm_cert.specs.Reading.{IsFirstBlock, IsPartRead, LeavesFrom, ends_at, is_begin}
use Rattle.fm_cert.specs.Rows.{FitsRow, HasNoRow, IsFirstRow, after, after_all, may_end, rows_of_block, spelling_of_row}
use Rattle.fm_cert.specs.Spelling.{line_feed}
use Rattle.fm_cert.proofs.BlockRows.{block_fits, block_text}
use Rattle.fm_cert.proofs.FirstRows.{no_text, one_row}
use Rattle.fm_cert.proofs.RowLaws.{text_of_row}
use Rattle.fm_cert.proofs.Taken.{all_join}

-- a line has a byte
pub row_shorter : (text : List ℕ) (row : Row) (more : List ℕ) → IsFirstRow text row more → length more < length text
row_shorter text row more h =
    let joined = join_with_byte 32 (parts_of_row row) in
    let row_long = ap length (text_of_row row h.fits) ∙ length-append joined line_feed in
    let long = ap length h.is ∙ length-append (spelling_of_row row) more in
    omega (arith, row_long, long)

-- a line at the first byte of a block is its first
pub begins_row : (row : Row) (more : List ℕ) → begins_block (spelling_of_row row ++ more) ≡ true → is_begin row ≡ true
begins_row (Row.Begin k) more e = refl
begins_row (Row.Body (Line.Term f args)) more e = e
begins_row (Row.Body (Line.Instance c ts)) more e = e
begins_row (Row.Body (Line.Equality ls ts)) more e = e
begins_row (Row.Body (Line.Cardinality s k ts)) more e = e
begins_row (Row.Body (Line.Sum n ks)) more e = e
begins_row (Row.Body (Line.OrderCard s k)) more e = e
begins_row (Row.Body (Line.OrderBound n)) more e = e
begins_row (Row.Body (Line.OrderZero s)) more e = e
begins_row (Row.Body (Line.Resolution c ss)) more e = e
begins_row Row.Unsat more e = e
begins_row (Row.Sat sum) more e = e
begins_row (Row.Unknown i d) more e = e
begins_row (Row.Sizes ks) more e = e
begins_row (Row.Default v) more e = e
begins_row (Row.Exception tuple v) more e = e

row_begins : (row : Row) (more : List ℕ) → is_begin row ≡ true → begins_block (spelling_of_row row ++ more) ≡ true
row_begins (Row.Begin k) more e = refl
row_begins (Row.Body line) more e = absurd (false≢true e)
row_begins Row.Unsat more e = absurd (false≢true e)
row_begins (Row.Sat sum) more e = absurd (false≢true e)
row_begins (Row.Unknown i d) more e = absurd (false≢true e)
row_begins (Row.Sizes ks) more e = absurd (false≢true e)
row_begins (Row.Default v) more e = absurd (false≢true e)
row_begins (Row.Exception tuple v) more e = absurd (false≢true e)

-- only a block's first line may stand before a block
pub first_place : (row : Row) → is_begin row ≡ false → after Next.Blocks row ≡ None
first_place (Row.Begin k) e = absurd (false≢true (sym e))
first_place (Row.Body line) e = refl
first_place Row.Unsat e = refl
first_place (Row.Sat sum) e = refl
first_place (Row.Unknown i d) e = refl
first_place (Row.Sizes ks) e = refl
first_place (Row.Default v) e = refl
first_place (Row.Exception tuple v) e = refl

-- within a block, no block begins
within : (next : Next) (row : Row) → may_end next ≡ false → is_begin row ≡ true → after next row ≡ None
within Next.Blocks row e b = absurd (false≢true (sym e))
within Next.Tables row e b = absurd (false≢true (sym e))
within Next.Exceptions row e b = absurd (false≢true (sym e))
within Next.Lines (Row.Begin k) e b = refl
within Next.Lines (Row.Body line) e b = absurd (false≢true b)
within Next.Lines Row.Unsat e b = absurd (false≢true b)
within Next.Lines (Row.Sat sum) e b = absurd (false≢true b)
within Next.Lines (Row.Unknown i d) e b = absurd (false≢true b)
within Next.Lines (Row.Sizes ks) e b = absurd (false≢true b)
within Next.Lines (Row.Default v) e b = absurd (false≢true b)
within Next.Lines (Row.Exception tuple v) e b = absurd (false≢true b)
within Next.Sizes (Row.Begin k) e b = refl
within Next.Sizes (Row.Body line) e b = absurd (false≢true b)
within Next.Sizes Row.Unsat e b = absurd (false≢true b)
within Next.Sizes (Row.Sat sum) e b = absurd (false≢true b)
within Next.Sizes (Row.Unknown i d) e b = absurd (false≢true b)
within Next.Sizes (Row.Sizes ks) e b = absurd (false≢true b)
within Next.Sizes (Row.Default v) e b = absurd (false≢true b)
within Next.Sizes (Row.Exception tuple v) e b = absurd (false≢true b)

-- a line that has no place where the block doesn't end
no_place : (next : Next) (rest : List ℕ) (row : Row) (more : List ℕ) → ends_at next rest ≡ false → IsFirstRow rest row more → (is_begin row ≡ false → after next row ≡ None) → after next row ≡ None
no_place next rest row more goes_on h refuses =
    elim (cases_Bool (is_begin row)) [
      | inr other ↦ refuses other
      | inl first ↦
          let begins : begins_block rest ≡ true = ap begins_block h.is ∙ row_begins row more first in
          elim (cases_Bool (may_end next)) [
            | inl ends ↦ absurd (both_ways (ends_at next rest) goes_on (and_from (may_end next) (begins_block rest) ends begins))
            | inr goes ↦ within next row goes first
          ]
    ]

not_end : (next : Next) (rest : List ℕ) → ends_at next rest ≡ false → rest ≡ [] → may_end next ≡ false
not_end next rest goes_on e =
    elim (cases_Bool (may_end next)) [
      | inl ends ↦ absurd (both_ways (ends_at next rest) goes_on (and_from (may_end next) (begins_block rest) ends (ap begins_block e)))
      | inr goes ↦ goes
    ]

has_text : (rest : List ℕ) (row : Row) (more : List ℕ) → IsFirstRow rest row more → rest ≡ [] → ⊥
has_text rest row more h e = no_text row more h.fits (sym h.is ∙ e)

pub stops_none : (next : Next) (rest : List ℕ) → HasNoRow rest → (rest ≡ [] → may_end next ≡ false) → CannotGoOn next rest
stops_none next rest none no_end = record { no_line = λ row more fits e. absurd (none row more (record { is = e; fits = fits })); no_end = no_end }

pub stops_row : (next : Next) (rest : List ℕ) (row : Row) (more : List ℕ) → IsFirstRow rest row more → after next row ≡ None → CannotGoOn next rest
stops_row next rest row more h none = record {
  no_line = λ other behind fits e. ap (after next) (one_row rest other row behind more (record { is = e; fits = fits }) h).0 ∙ none;
  no_end = λ e. absurd (has_text rest row more h e);
}

-- before the block's first line
pub start_none : (text : List ℕ) (from : ℕ) → HasNoRow text → 0 < length text → LeavesFrom text from from
start_none text from none some = record {
  rows = [];
  rest = text;
  next = Next.Blocks;
  whole = refl;
  fits = tt;
  in_place = refl;
  number = omega arith;
  stops = stops_none Next.Blocks text none (λ e. let h = ap length e in absurd (omega (arith, h, some)));
}

pub start_row : (text : List ℕ) (from : ℕ) (row : Row) (more : List ℕ) → IsFirstRow text row more → is_begin row ≡ false → LeavesFrom text from from
start_row text from row more h other = record {
  rows = [];
  rest = text;
  next = Next.Blocks;
  whole = refl;
  fits = tt;
  in_place = refl;
  number = omega arith;
  stops = stops_row Next.Blocks text row more h (first_place row other);
}

pub part_start : (text more : List ℕ) (row : Row) (rows : List Row) (next : Next) (from : ℕ) → IsFirstRow text row more → rows ≡ row ∷ [] → after Next.Blocks row ≡ Some next → IsPartRead text more rows next from (from + 1)
part_start text more row rows next from h is goes =
    let long = row_shorter text row more h in
    subst (λ (rs : List Row). IsPartRead text more rs next from (from + 1)) (sym is) (record {
      whole = h.is ∙ ap (λ (z : List ℕ). z ++ more) (sym (append-nil (spelling_of_row row)));
      fits = (h.fits, tt);
      in_place = goes;
      number = refl;
      bound = omega (arith, long);
    })

after_push : (rows : List Row) (row : Row) (start : Option Next) (n m : Next) → after_all start rows ≡ Some n → after n row ≡ Some m → after_all start (rows ++ row ∷ []) ≡ Some m
after_push [] row None n m e f = cc
after_push [] row (Some k) n m e f = let same : k ≡ n = cc e in ap (λ (x : Next). after x row) same ∙ f
after_push (r ∷ rows) row None n m e f = cc
after_push (r ∷ rows) row (Some k) n m e f = after_push rows row (after k r) n m e f

-- one more line
pub part_next : (text rest more : List ℕ) (rows new : List Row) (next now : Next) (row : Row) (from line : ℕ) → IsPartRead text rest rows next from line → IsFirstRow rest row more → after next row ≡ Some now → new ≡ rows ++ row ∷ [] → IsPartRead text more new now from (line + 1)
part_next text rest more rows new next now row from line r first goes is =
    let front = flat_map spelling_of_row rows in
    let one : flat_map spelling_of_row (rows ++ row ∷ []) ≡ front ++ spelling_of_row row = flat_map-append spelling_of_row rows (row ∷ []) ∙ ap (λ (z : List ℕ). front ++ z) (append-nil (spelling_of_row row)) in
    let whole : text ≡ flat_map spelling_of_row (rows ++ row ∷ []) ++ more =
    r.whole ∙ (ap (λ (z : List ℕ). front ++ z) first.is ∙ (sym (append_assoc front (spelling_of_row row) more) ∙ ap (λ (z : List ℕ). z ++ more) (sym one))) in
    let shorter = row_shorter rest row more first in
    let long = length-append rows (row ∷ []) in
    subst (λ (rs : List Row). IsPartRead text more rs now from (line + 1)) (sym is) (record {
      whole = whole;
      fits = all_join FitsRow rows (row ∷ []) r.fits (first.fits, tt);
      in_place = after_push rows row (Some Next.Blocks) next now r.in_place goes;
      number = omega (arith, r.number, long);
      bound = omega (arith, r.bound, shorter);
    })

-- the first line outside
stopped : (text rest : List ℕ) (rows : List Row) (next : Next) (from line : ℕ) → IsPartRead text rest rows next from line → CannotGoOn next rest → LeavesFrom text from line
stopped text rest rows next from line r stops = record {
  rows = rows;
  rest = rest;
  next = next;
  whole = r.whole;
  fits = r.fits;
  in_place = r.in_place;
  number = r.number;
  stops = stops;
}

pub part_none : (text rest : List ℕ) (rows : List Row) (next : Next) (from line : ℕ) → IsPartRead text rest rows next from line → ends_at next rest ≡ false → HasNoRow rest → LeavesFrom text from line
part_none text rest rows next from line r goes_on none = stopped text rest rows next from line r (stops_none next rest none (not_end next rest goes_on))

pub part_row : (text rest : List ℕ) (rows : List Row) (next : Next) (from line : ℕ) (row : Row) (more : List ℕ) → IsPartRead text rest rows next from line → ends_at next rest ≡ false → IsFirstRow rest row more → (is_begin row ≡ false → after next row ≡ None) → LeavesFrom text from line
part_row text rest rows next from line row more r goes_on h refuses = stopped text rest rows next from line r (stops_row next rest row more h (no_place next rest row more goes_on h refuses))

-- the block's end
pub part_block : (text rest : List ℕ) (rows : List Row) (next : Next) (from line : ℕ) (block : Block) → IsPartRead text rest rows next from line → ends_at next rest ≡ true → rows_of_block block ≡ rows → IsFirstBlock text from block rest line
part_block text rest rows next from line block r ends is =
    let s : IsPartRead text rest (rows_of_block block) next from line = subst (λ (rs : List Row). IsPartRead text rest rs next from line) (sym is) r in
    let some : 0 < length (rows_of_block block) = omega arith in
    record {
      whole = s.whole ∙ ap (λ (z : List ℕ). z ++ rest) (block_text block);
      fits = block_fits block s.fits;
      ends = (and_parts (may_end next) (begins_block rest) ends).1;
      number = s.number;
      bound = s.bound;
      shorter = omega (arith, s.number, s.bound, some);
    }
