-- A text that blocks spell doesn't leave the grammar, and a text leaves it at one line.
use Rattle.std.proofs.Common.{◌≡◌, ℕ, suc, ◌+◌, true, List, [], ◌∷◌, ◌++◌, length, Option, Some, None, inl, inr, refl, sym, ap, ◌∙◌, append_assoc}
use Rattle.std.specs.List.{AllByRecursion, flat_map}
use Rattle.std.proofs.lemmas.Bool.{both_ways}
use Rattle.fm_cert.specs.declared.row.Next.{Next}
use Rattle.fm_cert.specs.declared.row.Row.{Row}
use Rattle.fm_cert.specs.Outside.{CannotGoOn, NoTextIsBoth, OutsideIsOneLine}
use Rattle.fm_cert.specs.Rows.{FitsRow, IsFirstRow, after, after_all, may_end, rows_of, spelling_of_row}
use Rattle.fm_cert.specs.Spelling.{header, spelling_of_block}
use Rattle.fm_cert.proofs.BlockRows.{blocks_after, blocks_text, nowhere, rows_fit}
use Rattle.fm_cert.proofs.FirstRows.{behind_header, no_text, one_row}

walk : (rows others : List Row) (rest : List ℕ) (start : Option Next) (next last : Next) → AllByRecursion FitsRow rows → AllByRecursion FitsRow others → flat_map spelling_of_row rows ++ rest ≡ flat_map spelling_of_row others → after_all start rows ≡ Some next → after_all start others ≡ Some last → may_end last ≡ true → CannotGoOn next rest → ⊥
walk [] [] rest start next last h k e a b t stops =
    let same : Some next ≡ Some last = sym a ∙ b in
    let one : next ≡ last = cc same in
    both_ways (may_end next) (stops.no_end e) (ap may_end one ∙ t)
walk [] (r ∷ rs) rest start next last h k e a b t stops =
    let none = stops.no_line r (flat_map spelling_of_row rs) k.0 e in
    let go : after_all (after next r) rs ≡ Some last = ap (λ (n : Option Next). after_all n (r ∷ rs)) (sym a) ∙ b in
    nowhere rs last (ap (λ (n : Option Next). after_all n rs) (sym none) ∙ go)
walk (r ∷ rs) [] rest start next last h k e a b t stops = no_text r (flat_map spelling_of_row rs ++ rest) h.0 (sym (append_assoc (spelling_of_row r) (flat_map spelling_of_row rs) rest) ∙ e)
walk (r ∷ rs) (s ∷ ss) rest None next last h k e a b t stops = absurd (nowhere (r ∷ rs) next a)
walk (r ∷ rs) (s ∷ ss) rest (Some n) next last h k e a b t stops =
    let text = spelling_of_row r ++ (flat_map spelling_of_row rs ++ rest) in
    let here : IsFirstRow text r (flat_map spelling_of_row rs ++ rest) = record { is = refl; fits = h.0 } in
    let there : IsFirstRow text s (flat_map spelling_of_row ss) = record { is = sym (append_assoc (spelling_of_row r) (flat_map spelling_of_row rs) rest) ∙ e; fits = k.0 } in
    let one = one_row text r s (flat_map spelling_of_row rs ++ rest) (flat_map spelling_of_row ss) here there in
    let go : after_all (after n r) ss ≡ Some last = ap (λ (q : Row). after_all (after n q) ss) one.0 ∙ b in
    walk rs ss rest (after n r) next last h.1 k.1 one.1 a go t stops

pub not_both : NoTextIsBoth
not_both text line bs (h, e) out =
    elim out [
      | inl first ↦ first.1 (flat_map spelling_of_block bs) e
      | inr l ↦
          let whole : text ≡ header ++ flat_map spelling_of_row (rows_of bs) = e ∙ ap (λ (z : List ℕ). header ++ z) (sym (blocks_text bs)) in
          let front : text ≡ header ++ (flat_map spelling_of_row l.rows ++ l.rest) = l.whole ∙ append_assoc header (flat_map spelling_of_row l.rows) l.rest in
          let last = blocks_after bs Next.Blocks refl in
          walk l.rows (rows_of bs) l.rest (Some Next.Blocks) l.next last.0 l.fits (rows_fit bs h) (behind_header text (flat_map spelling_of_row l.rows ++ l.rest) (flat_map spelling_of_row (rows_of bs)) front whole) l.in_place last.1 last.2 l.stops
    ]

-- A text leaves the grammar at one line.
stuck : (row : Row) (rs : List Row) (rest text : List ℕ) (start : Option Next) (next last : Next) → FitsRow row → text ≡ spelling_of_row row ++ flat_map spelling_of_row rs ++ rest → start ≡ Some next → after_all start (row ∷ rs) ≡ Some last → CannotGoOn next text → ⊥
stuck row rs rest text start next last h e a b stops =
    let none = stops.no_line row (flat_map spelling_of_row rs ++ rest) h (e ∙ append_assoc (spelling_of_row row) (flat_map spelling_of_row rs) rest) in
    let go : after_all (after next row) rs ≡ Some last = ap (λ (n : Option Next). after_all n (row ∷ rs)) (sym a) ∙ b in
    nowhere rs last (ap (λ (n : Option Next). after_all n rs) (sym none) ∙ go)

same_length : (rows others : List Row) (rest rest' : List ℕ) (start : Option Next) (next next' : Next) → AllByRecursion FitsRow rows → AllByRecursion FitsRow others → flat_map spelling_of_row rows ++ rest ≡ flat_map spelling_of_row others ++ rest' → after_all start rows ≡ Some next → after_all start others ≡ Some next' → CannotGoOn next rest → CannotGoOn next' rest' → length rows ≡ length others
same_length [] [] rest rest' start next next' h k e a b stops stops' = refl
same_length [] (r ∷ rs) rest rest' start next next' h k e a b stops stops' = absurd (stuck r rs rest' rest start next next' k.0 e a b stops)
same_length (r ∷ rs) [] rest rest' start next next' h k e a b stops stops' = absurd (stuck r rs rest rest' start next' next h.0 (sym e) b a stops')
same_length (r ∷ rs) (s ∷ ss) rest rest' None next next' h k e a b stops stops' = absurd (nowhere (r ∷ rs) next a)
same_length (r ∷ rs) (s ∷ ss) rest rest' (Some n) next next' h k e a b stops stops' =
    let text = spelling_of_row r ++ (flat_map spelling_of_row rs ++ rest) in
    let here : IsFirstRow text r (flat_map spelling_of_row rs ++ rest) = record { is = refl; fits = h.0 } in
    let there : IsFirstRow text s (flat_map spelling_of_row ss ++ rest') = record { is = sym (append_assoc (spelling_of_row r) (flat_map spelling_of_row rs) rest) ∙ (e ∙ append_assoc (spelling_of_row s) (flat_map spelling_of_row ss) rest'); fits = k.0 } in
    let one = one_row text r s (flat_map spelling_of_row rs ++ rest) (flat_map spelling_of_row ss ++ rest') here there in
    let go : after_all (after n r) ss ≡ Some next' = ap (λ (q : Row). after_all (after n q) ss) one.0 ∙ b in
    let rest_same = same_length rs ss rest rest' (after n r) next next' h.1 k.1 one.1 a go stops stops' in
    ap suc rest_same

pub one_line : OutsideIsOneLine
one_line text line other h k =
    elim h [
      | inl first ↦
          elim k [
            | inl second ↦ first.0 ∙ sym second.0
            | inr m ↦ absurd (first.1 (flat_map spelling_of_row m.rows ++ m.rest) (m.whole ∙ append_assoc header (flat_map spelling_of_row m.rows) m.rest))
          ]
      | inr l ↦
          elim k [
            | inl second ↦ absurd (second.1 (flat_map spelling_of_row l.rows ++ l.rest) (l.whole ∙ append_assoc header (flat_map spelling_of_row l.rows) l.rest))
            | inr m ↦
                let same = behind_header text (flat_map spelling_of_row l.rows ++ l.rest) (flat_map spelling_of_row m.rows ++ m.rest) (l.whole ∙ append_assoc header (flat_map spelling_of_row l.rows) l.rest) (m.whole ∙ append_assoc header (flat_map spelling_of_row m.rows) m.rest) in
                l.number ∙ (ap (λ (n : ℕ). 2 + n) (same_length l.rows m.rows l.rest m.rest (Some Next.Blocks) l.next m.next l.fits m.fits same l.in_place m.in_place l.stops m.stops) ∙ sym m.number)
          ]
    ]
