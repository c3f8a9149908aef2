-- A text that is read line by line, with nothing kept.
use Rattle.std.proofs.Common.{◌≡◌, ℕ, ◌+◌, true, false, List, [], ◌∷◌, ◌++◌, length, Some, None, inr, refl, sym, ap, subst, ◌∙◌, append_assoc, append-nil, arith}
use Rattle.std.specs.Prelude.{◌==◌}
use Rattle.std.specs.List.{AllByRecursion, flat_map}
use Rattle.std.proofs.lemmas.Bool.{both_ways}
use Rattle.fm_cert.specs.declared.row.Next.{Next}
use Rattle.fm_cert.specs.declared.row.Row.{Row}
use Rattle.fm_cert.specs.Blockwise.{IsCertificate}
use Rattle.fm_cert.specs.Outside.{CannotGoOn, IsOutside}
use Rattle.fm_cert.specs.Reading.{IsScanned}
use Rattle.fm_cert.specs.Rows.{FitsRow, HasNoRow, IsFirstRow, after, may_end, spelling_of_row}
use Rattle.fm_cert.specs.Spelling.{header}
use Rattle.fm_cert.proofs.BlockRows.{blocks_fit, blocks_text}
use Rattle.fm_cert.proofs.FirstRows.{no_text}
use Rattle.fm_cert.proofs.Gathered.{gathers}
use Rattle.fm_cert.proofs.PartReads.{part_next, stops_none, stops_row}
use Rattle.fm_cert.proofs.BlockReads.{nil_from}

pub scan_start : (behind : List ℕ) → IsScanned behind behind Next.Blocks 2
scan_start behind = record { rows = []; part = record { whole = refl; fits = tt; in_place = refl; number = omega arith; bound = omega arith } }

pub scan_next : (behind rest more : List ℕ) (next now : Next) (row : Row) (line : ℕ) → IsScanned behind rest next line → IsFirstRow rest row more → Some now ≡ after next row → IsScanned behind more now (line + 1)
scan_next behind rest more next now row line s first goes = record {
  rows = s.rows ++ row ∷ [];
  part = part_next behind rest more s.rows (s.rows ++ row ∷ []) next now row 2 line s.part first (sym goes) refl;
}

leaves : (text behind rest : List ℕ) (next : Next) (line : ℕ) → text ≡ header ++ behind → IsScanned behind rest next line → CannotGoOn next rest → IsOutside text line
leaves text behind rest next line e s stops = inr (record {
  rows = s.rows;
  rest = rest;
  next = next;
  whole = e ∙ (ap (λ (z : List ℕ). header ++ z) s.part.whole ∙ sym (append_assoc header (flat_map spelling_of_row s.rows) rest));
  fits = s.part.fits;
  in_place = s.part.in_place;
  number = s.part.number;
  stops = stops;
})

some_left : (rest : List ℕ) → false ≡ (length rest == 0) → rest ≡ [] → ⊥
some_left rest e none = both_ways (length rest == 0) (sym e) (ap (λ (z : List ℕ). length z == 0) none)

pub scan_none : (text behind rest : List ℕ) (next : Next) (line : ℕ) → text ≡ header ++ behind → IsScanned behind rest next line → false ≡ (length rest == 0) → HasNoRow rest → IsOutside text line
scan_none text behind rest next line e s some none = leaves text behind rest next line e s (stops_none next rest none (λ empty. absurd (some_left rest some empty)))

pub scan_row : (text behind rest more : List ℕ) (next : Next) (row : Row) (line : ℕ) → text ≡ header ++ behind → IsScanned behind rest next line → IsFirstRow rest row more → None ≡ after next row → IsOutside text line
scan_row text behind rest more next row line e s first none = leaves text behind rest next line e s (stops_row next rest row more first (sym none))

pub scan_cut : (text behind rest : List ℕ) (next : Next) (line : ℕ) → text ≡ header ++ behind → IsScanned behind rest next line → true ≡ (length rest == 0) → may_end next ≡ false → IsOutside text line
scan_cut text behind rest next line e s empty goes =
    let none = nil_from rest empty in
    leaves text behind rest next line e s (record {
      no_line = λ row more fits is. absurd (no_text row more fits (sym is ∙ none));
      no_end = λ _. goes;
    })

pub scan_end : (text behind rest : List ℕ) (next : Next) (line : ℕ) → text ≡ header ++ behind → IsScanned behind rest next line → true ≡ (length rest == 0) → may_end next ≡ true → IsCertificate text
scan_end text behind rest next line e s empty ends =
    let none = nil_from rest empty in
    let blocks = gathers s.rows Next.Blocks next s.part.in_place ends in
    let fits = blocks_fit blocks.0 (subst (AllByRecursion FitsRow) blocks.1 s.part.fits) in
    let whole = s.part.whole ∙ (ap (λ (z : List ℕ). flat_map spelling_of_row s.rows ++ z) none ∙ (append-nil (flat_map spelling_of_row s.rows) ∙ (ap (flat_map spelling_of_row) blocks.1 ∙ blocks_text blocks.0))) in
    (blocks.0, (fits, e ∙ ap (λ (z : List ℕ). header ++ z) whole))
