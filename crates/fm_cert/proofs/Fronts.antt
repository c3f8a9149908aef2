-- The blocks that a reader has read are a front of those that the whole text spells.
use Rattle.std.proofs.Common.{◌≡◌, ℕ, inl, inr, true, List, [], ◌∷◌, ◌++◌, Some, refl, sym, ap, subst, ◌∙◌, append_assoc}
use Rattle.std.specs.List.{AllByRecursion, flat_map}
use Rattle.std.proofs.lemmas.Bool.{false≢true}
use Rattle.fm_cert.specs.Blockwise.{IsAt, IsCertificate, Left, begins_block}
use Rattle.fm_cert.specs.Fits.{AreSpelled}
use Rattle.fm_cert.specs.Outside.{Spells}
use Rattle.fm_cert.specs.Reading.{is_begin}
use Rattle.fm_cert.specs.Rows.{FitsRow, IsFirstRow, after_all, may_end, rows_of, spelling_of_row}
use Rattle.fm_cert.specs.Spelling.{header, spelling_of_block}
use Rattle.fm_cert.specs.declared.block.Block.{Block}
use Rattle.fm_cert.specs.declared.row.Next.{Next}
use Rattle.fm_cert.specs.declared.row.Row.{Row}
use Rattle.fm_cert.proofs.BlockRows.{after_append, begins_after, blocks_after, blocks_fit, blocks_text, rows_fit}
use Rattle.fm_cert.proofs.FirstRows.{behind_header, no_text, one_row}
use Rattle.fm_cert.proofs.Gathered.{gathers}
use Rattle.fm_cert.proofs.PartReads.{begins_row}

-- rows whose text goes on
record GoesOn (rs ss : List Row) (rest : List ℕ) : Type 0 where
  more : List Row
  rows : ss ≡ rs ++ more
  text : flat_map spelling_of_row more ≡ rest

goes_on : (rs ss : List Row) (rest : List ℕ) → AllByRecursion FitsRow rs → AllByRecursion FitsRow ss → flat_map spelling_of_row rs ++ rest ≡ flat_map spelling_of_row ss → GoesOn rs ss rest
goes_on [] ss rest h k e = record { more = ss; rows = refl; text = sym e }
goes_on (r ∷ rs) [] rest h k e = absurd (no_text r (flat_map spelling_of_row rs ++ rest) h.0 (sym (append_assoc (spelling_of_row r) (flat_map spelling_of_row rs) rest) ∙ e))
goes_on (r ∷ rs) (s ∷ ss) rest h k e =
    let text = spelling_of_row r ++ (flat_map spelling_of_row rs ++ rest) in
    let here : IsFirstRow text r (flat_map spelling_of_row rs ++ rest) = record { is = refl; fits = h.0 } in
    let there : IsFirstRow text s (flat_map spelling_of_row ss) = record { is = sym (append_assoc (spelling_of_row r) (flat_map spelling_of_row rs) rest) ∙ e; fits = k.0 } in
    let one = one_row text r s (flat_map spelling_of_row rs ++ rest) (flat_map spelling_of_row ss) here there in
    let w = goes_on rs ss rest h.1 k.1 one.1 in
    record { more = w.more; rows = (λ i. (sym one.0) i ∷ ss) ∙ ap (λ (l : List Row). r ∷ l) w.rows; text = w.text }

fits_behind : (rs ss : List Row) → AllByRecursion FitsRow (rs ++ ss) → AllByRecursion FitsRow ss
fits_behind [] ss h = h
fits_behind (r ∷ rs) ss h = fits_behind rs ss h.1

-- what stands behind whole blocks and begins a block, or is nothing, stands in its place
begins_anew : (n m : Next) (r : Row) (rs : List Row) → may_end n ≡ true → is_begin r ≡ true → after_all (Some n) (r ∷ rs) ≡ Some m → after_all (Some Next.Blocks) (r ∷ rs) ≡ Some m
begins_anew n m (Row.Begin k) rs may is e = sym (ap (λ o. after_all o rs) (begins_after n k may)) ∙ e
begins_anew n m (Row.Body line) rs may is e = absurd (false≢true is)
begins_anew n m Row.Unsat rs may is e = absurd (false≢true is)
begins_anew n m (Row.Sat sum) rs may is e = absurd (false≢true is)
begins_anew n m (Row.Unknown i d) rs may is e = absurd (false≢true is)
begins_anew n m (Row.Sizes ks) rs may is e = absurd (false≢true is)
begins_anew n m (Row.Default v) rs may is e = absurd (false≢true is)
begins_anew n m (Row.Exception tuple v) rs may is e = absurd (false≢true is)

more_blocks : (n m : Next) (rows : List Row) → may_end n ≡ true → may_end m ≡ true → ((r : Row) (rs : List Row) → rows ≡ r ∷ rs → is_begin r ≡ true) → after_all (Some n) rows ≡ Some m → (bs : List Block) × (rows ≡ rows_of bs)
more_blocks n m [] may ends begins e = ([], refl)
more_blocks n m (r ∷ rs) may ends begins e = gathers (r ∷ rs) Next.Blocks m (begins_anew n m r rs may (begins r rs refl) e) ends

first_begins : (rows : List Row) (rest : List ℕ) → flat_map spelling_of_row rows ≡ rest → begins_block rest ≡ true → (r : Row) (rs : List Row) → rows ≡ r ∷ rs → is_begin r ≡ true
first_begins rows rest e begins r rs is = begins_row r (flat_map spelling_of_row rs) (ap begins_block (sym (ap (flat_map spelling_of_row) is) ∙ e) ∙ begins)

flat_both : (bs cs : List Block) → flat_map spelling_of_block (bs ++ cs) ≡ flat_map spelling_of_block bs ++ flat_map spelling_of_block cs
flat_both [] cs = refl
flat_both (b ∷ bs) cs = ap (λ l. spelling_of_block b ++ l) (flat_both bs cs) ∙ sym (append_assoc (spelling_of_block b) (flat_map spelling_of_block bs) (flat_map spelling_of_block cs))

spelled_both : (bs cs : List Block) → AreSpelled bs → AreSpelled cs → AreSpelled (bs ++ cs)
spelled_both [] cs h k = k
spelled_both (b ∷ bs) cs h k = (h.0, spelled_both bs cs h.1 k)

-- the blocks behind those that were read
pub front_of : (text : List ℕ) (bs : List Block) (left : Left) → IsAt text bs left → IsCertificate text → (more : List Block) × Spells text (bs ++ more)
front_of text bs left at (all, spells) =
    elim at.ends [
      | inl none ↦ (all, subst (λ (l : List Block). Spells text (l ++ all)) (sym none) spells)
      | inr begins ↦
          let behind = behind_header text (flat_map spelling_of_block bs ++ left.rest) (flat_map spelling_of_block all) (at.whole ∙ append_assoc header (flat_map spelling_of_block bs) left.rest) spells.1 in
          let fits = rows_fit all spells.0 in
          let w = goes_on (rows_of bs) (rows_of all) left.rest (rows_fit bs at.spelled) fits (ap (λ l. l ++ left.rest) (blocks_text bs) ∙ (behind ∙ sym (blocks_text all))) in
          let here = blocks_after bs Next.Blocks refl in
          let whole = blocks_after all Next.Blocks refl in
          let places : after_all (Some here.0) w.more ≡ Some whole.0 = ap (λ o. after_all o w.more) (sym here.1) ∙ (sym (after_append (Some Next.Blocks) (rows_of bs) w.more) ∙ (ap (after_all (Some Next.Blocks)) (sym w.rows) ∙ whole.1)) in
          let more = more_blocks here.0 whole.0 w.more here.2 whole.2 (first_begins w.more left.rest w.text begins) places in
          let rest : flat_map spelling_of_block more.0 ≡ left.rest = sym (blocks_text more.0) ∙ (ap (flat_map spelling_of_row) (sym more.1) ∙ w.text) in
          let fit : AreSpelled more.0 = blocks_fit more.0 (subst (AllByRecursion FitsRow) more.1 (fits_behind (rows_of bs) w.more (subst (AllByRecursion FitsRow) w.rows fits))) in
          (more.0, (spelled_both bs more.0 at.spelled fit, at.whole ∙ (append_assoc header (flat_map spelling_of_block bs) left.rest ∙ ap (λ l. header ++ l) (ap (λ l. flat_map spelling_of_block bs ++ l) (sym rest) ∙ sym (flat_both bs more.0)))))
    ]
