-- From one block to the next: where the reader stands, and where the whole text leaves the grammar.
use Rattle.std.proofs.Common.{◌≡◌, ℕ, ◌⊎◌, true, List, [], ◌∷◌, ◌++◌, length, Option, Some, None, inl, inr, refl, sym, ap, subst, ◌∙◌, append_assoc, append-nil, arith}
use Rattle.std.specs.Prelude.{◌==◌, Err, Result}
use Rattle.std.specs.List.{flat_map}
use Rattle.std.proofs.lemmas.Grind.{flat_map-append}
use Rattle.std.proofs.lemmas.Bool.{eqb-true, false≢true}
use Rattle.std.proofs.lemmas.List.{length-append}
use Rattle.fm_cert.specs.declared.block.Block.{Block}
use Rattle.fm_cert.specs.declared.fail.CertFail.{CertFail}
use Rattle.fm_cert.specs.declared.fail.CertText.{CertText}
use Rattle.fm_cert.specs.declared.row.Next.{Next}
use Rattle.fm_cert.specs.declared.row.Row.{Row}
use Rattle.fm_cert.specs.Blockwise.{IsAt, Left, begins_block}
use Rattle.fm_cert.specs.Fits.{FitsBlock}
use Rattle.fm_cert.specs.Outside.{CannotGoOn, IsOutside, Spells}
use Rattle.fm_cert.specs.Reading.{IsFirstBlock, LeavesFrom, is_begin}
use Rattle.fm_cert.specs.Rows.{FitsRow, after, after_all, may_end, rows_of, rows_of_block, spelling_of_row}
use Rattle.fm_cert.specs.Spelling.{header, spelling_of_block}
use Rattle.fm_cert.proofs.BlockRows.{after_append, begins_after, blocks_after, blocks_text, nowhere, rows_fit}
use Rattle.fm_cert.proofs.PartReads.{begins_row}
use Rattle.fm_cert.proofs.Taken.{all_join}

-- the line that an error names
pub same_line : {T : Type 0} (result : CertFail) (n : ℕ) (at : CertText) → result ≡ CertFail.Text (record { line = n }) → ◌≡◌ {A = Result T CertFail} (Err result) (Err (CertFail.Text at)) → n ≡ at.line
same_line result n at is e =
    let inner : result ≡ CertFail.Text at = cc e in
    let texts : CertFail.Text (record { line = n }) ≡ CertFail.Text at = sym is ∙ inner in
    let same : record { line = n } ≡ at = cc texts in
    ap (λ (t : CertText). t.line) same

-- an error is the same whatever stands at Ok
pub same_error : {S T : Type 0} (x y : CertFail) → ◌≡◌ {A = Result S CertFail} (Err x) (Err y) → ◌≡◌ {A = Result T CertFail} (Err x) (Err y)
same_error x y e =
    let same : x ≡ y = cc e in
    ap (λ (z : CertFail). Err z) same

pub nil_from : (xs : List ℕ) → true ≡ (length xs == 0) → xs ≡ []
nil_from [] e = refl
nil_from (x ∷ xs) e = let h : length (x ∷ xs) ≡ 0 = eqb-true (length (x ∷ xs)) 0 (sym e) in absurd (omega (arith, h))

-- before the first block
pub at_start : (text rest : List ℕ) → text ≡ header ++ rest → IsAt text [] (record { rest = rest; line = 2 })
at_start text rest e = record {
  whole = e ∙ ap (λ (z : List ℕ). z ++ rest) (sym (append-nil header));
  spelled = tt;
  number = omega arith;
  ends = inl refl;
}

-- behind one more block
pub at_next : (text : List ℕ) (blocks : List Block) (left : Left) (block : Block) (rest : List ℕ) (line : ℕ) → IsAt text blocks left → IsFirstBlock left.rest left.line block rest line → IsAt text (blocks ++ block ∷ []) (record { rest = rest; line = line })
at_next text blocks left block rest line at first =
    let front = flat_map spelling_of_block blocks in
    let one : flat_map spelling_of_block (blocks ++ block ∷ []) ≡ front ++ spelling_of_block block = flat_map-append spelling_of_block blocks (block ∷ []) ∙ ap (λ (z : List ℕ). front ++ z) (append-nil (spelling_of_block block)) in
    let whole : text ≡ header ++ flat_map spelling_of_block (blocks ++ block ∷ []) ++ rest =
    at.whole ∙ (ap (λ (z : List ℕ). (header ++ front) ++ z) first.whole ∙ (sym (append_assoc (header ++ front) (spelling_of_block block) rest) ∙ ap (λ (z : List ℕ). z ++ rest) (append_assoc header front (spelling_of_block block) ∙ ap (λ (z : List ℕ). header ++ z) (sym one)))) in
    let rows : rows_of (blocks ++ block ∷ []) ≡ rows_of blocks ++ rows_of_block block = flat_map-append rows_of_block blocks (block ∷ []) ∙ ap (λ (z : List Row). rows_of blocks ++ z) (append-nil (rows_of_block block)) in
    let long = ap length rows ∙ length-append (rows_of blocks) (rows_of_block block) in
    record {
      whole = whole;
      spelled = all_join FitsBlock blocks (block ∷ []) at.spelled (first.fits, tt);
      number = omega (arith, at.number, first.number, long);
      ends = inr first.ends;
    }

pub at_end : (text : List ℕ) (blocks : List Block) (left : Left) → IsAt text blocks left → true ≡ (length left.rest == 0) → Spells text blocks
at_end text blocks left at empty = (at.spelled, at.whole ∙ (ap (λ (z : List ℕ). (header ++ flat_map spelling_of_block blocks) ++ z) (nil_from left.rest empty) ∙ append-nil (header ++ flat_map spelling_of_block blocks)))

-- What can't go on before a block can't go on behind one either, where the text stands at a block's first byte or at its end.
no_first : (m : Next) (row : Row) → is_begin row ≡ true → after Next.Blocks row ≡ None → after m row ≡ None
no_first m (Row.Begin k) b e = absurd cc
no_first m (Row.Body line) b e = absurd (false≢true b)
no_first m Row.Unsat b e = absurd (false≢true b)
no_first m (Row.Sat sum) b e = absurd (false≢true b)
no_first m (Row.Unknown i d) b e = absurd (false≢true b)
no_first m (Row.Sizes ks) b e = absurd (false≢true b)
no_first m (Row.Default v) b e = absurd (false≢true b)
no_first m (Row.Exception tuple v) b e = absurd (false≢true b)

goes_nowhere : (m : Next) (rest : List ℕ) → may_end m ≡ true → begins_block rest ≡ true → CannotGoOn Next.Blocks rest → CannotGoOn m rest
goes_nowhere m rest ends begins stops = record {
  no_line = λ row more fits e. no_first m row (begins_row row more (ap begins_block (sym e) ∙ begins)) (stops.no_line row more fits e);
  no_end = λ e. absurd (false≢true (sym (stops.no_end e)));
}

goes_on : (m : Next) (r : Row) (rs : List Row) (next : Next) → may_end m ≡ true → after_all (Some Next.Blocks) (r ∷ rs) ≡ Some next → after_all (Some m) (r ∷ rs) ≡ Some next
goes_on m (Row.Begin k) rs next ends e = ap (λ (n : Option Next). after_all n rs) (begins_after m k ends) ∙ e
goes_on m (Row.Body line) rs next ends e = absurd (nowhere rs next e)
goes_on m Row.Unsat rs next ends e = absurd (nowhere rs next e)
goes_on m (Row.Sat sum) rs next ends e = absurd (nowhere rs next e)
goes_on m (Row.Unknown i d) rs next ends e = absurd (nowhere rs next e)
goes_on m (Row.Sizes ks) rs next ends e = absurd (nowhere rs next e)
goes_on m (Row.Default v) rs next ends e = absurd (nowhere rs next e)
goes_on m (Row.Exception tuple v) rs next ends e = absurd (nowhere rs next e)

-- where the rest leads, from a place behind blocks
abbrev LeadsTo : Next → List Row → List ℕ → Type 0
LeadsTo m rows rest = (next : Next) × (after_all (Some m) rows ≡ Some next) × CannotGoOn next rest

leads : (m : Next) (rows : List Row) (rest : List ℕ) (next : Next) → may_end m ≡ true → (rows ≡ [] → (m ≡ Next.Blocks) ⊎ (begins_block rest ≡ true)) → after_all (Some Next.Blocks) rows ≡ Some next → CannotGoOn next rest → LeadsTo m rows rest
leads m [] rest next ends front e stops =
    let same : Next.Blocks ≡ next = cc e in
    let here : CannotGoOn Next.Blocks rest = subst (λ (n : Next). CannotGoOn n rest) (sym same) stops in
    elim (front refl) [
      | inl first ↦ (m, refl, subst (λ (n : Next). CannotGoOn n rest) (sym first) here)
      | inr begins ↦ (m, refl, goes_nowhere m rest ends begins here)
    ]
leads m (r ∷ rs) rest next ends front e stops = (next, goes_on m r rs next ends e, stops)

first_place : (bs : List Block) (m : Next) → bs ≡ [] → after_all (Some Next.Blocks) (rows_of bs) ≡ Some m → m ≡ Next.Blocks
first_place [] m e h = let same : Next.Blocks ≡ m = cc h in sym same
first_place (b ∷ bs) m e h = absurd cc

pub at_fault : (text : List ℕ) (blocks : List Block) (left : Left) (line : ℕ) → IsAt text blocks left → LeavesFrom left.rest left.line line → IsOutside text line
at_fault text blocks left line at from =
    let last = blocks_after blocks Next.Blocks refl in
    let front : from.rows ≡ [] → (last.0 ≡ Next.Blocks) ⊎ (begins_block from.rest ≡ true) = λ none.
    elim at.ends [
      | inl no_block ↦ inl (first_place blocks last.0 no_block last.1)
      | inr begins ↦ inr (ap begins_block (sym (from.whole ∙ ap (λ (rs : List Row). flat_map spelling_of_row rs ++ from.rest) none)) ∙ begins)
    ] in
    let there = leads last.0 from.rows from.rest from.next last.2 front from.in_place from.stops in
    let blocks_rows : flat_map spelling_of_row (rows_of blocks ++ from.rows) ≡ flat_map spelling_of_block blocks ++ flat_map spelling_of_row from.rows = flat_map-append spelling_of_row (rows_of blocks) from.rows ∙ ap (λ (z : List ℕ). z ++ flat_map spelling_of_row from.rows) (blocks_text blocks) in
    let whole : text ≡ header ++ flat_map spelling_of_row (rows_of blocks ++ from.rows) ++ from.rest =
    at.whole ∙ (ap (λ (z : List ℕ). (header ++ flat_map spelling_of_block blocks) ++ z) from.whole ∙ (sym (append_assoc (header ++ flat_map spelling_of_block blocks) (flat_map spelling_of_row from.rows) from.rest) ∙ ap (λ (z : List ℕ). z ++ from.rest) (append_assoc header (flat_map spelling_of_block blocks) (flat_map spelling_of_row from.rows) ∙ ap (λ (z : List ℕ). header ++ z) (sym blocks_rows)))) in
    let long = length-append (rows_of blocks) from.rows in
    inr (record {
      rows = rows_of blocks ++ from.rows;
      rest = from.rest;
      next = there.0;
      whole = whole;
      fits = all_join FitsRow (rows_of blocks) from.rows (rows_fit blocks at.spelled) from.fits;
      in_place = after_append (Some Next.Blocks) (rows_of blocks) from.rows ∙ (ap (λ (n : Option Next). after_all n from.rows) last.1 ∙ there.1);
      number = omega (arith, at.number, from.number, long);
      stops = there.2;
    })
