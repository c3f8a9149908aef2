-- The header, and the line at the front of a text.
use Rattle.std.proofs.Common.{◌≡◌, ℕ, true, false, List, [], ◌∷◌, ◌++◌, length, Option, Some, None, refl, sym, ap, ◌∙◌, arith}
use Rattle.std.specs.Prelude.{codes}
use Rattle.std.specs.List.{join_with_byte}
use Rattle.std.specs.Str.{bytes_eq}
use Rattle.std.proofs.lemmas.Bool.{both_ways}
use Rattle.std.proofs.lemmas.List.{length-append}
use Rattle.fm_cert.specs.declared.row.Row.{Row}
use Rattle.fm_cert.specs.Parts.{cut, parts_in, parts_of_row, row_in}
use Rattle.fm_cert.specs.Rows.{FitsRow, HasNoRow, IsFirstRow, spelling_of_row}
use Rattle.fm_cert.specs.Spelling.{header, line_feed}
use Rattle.fm_cert.proofs.PartLaws.{cut_again, cut_takes, same_bytes}
use Rattle.fm_cert.proofs.RowLaws.{first_row_again, text_of_row}

none_some : {X : Type 0} (x : X) → None ≡ Some x → ⊥
none_some x e = cc

-- the header
pub header_takes : (text line rest : List ℕ) → Some (line, rest) ≡ cut 10 text → bytes_eq line (codes "fmfcert 1") ≡ true → text ≡ header ++ rest
unfolding header
header_takes text line rest e t = cut_takes 10 text (line, rest) (sym e) ∙ ap (λ (z : List ℕ). z ++ 10 ∷ rest) (same_bytes line (codes "fmfcert 1") t)

pub header_cut : (text more : List ℕ) → text ≡ header ++ more → cut 10 text ≡ Some (codes "fmfcert 1", more)
unfolding header
header_cut text more e = ap (cut 10) e ∙ cut_again 10 (codes "fmfcert 1") more refl refl

pub header_uncut : (text : List ℕ) → None ≡ cut 10 text → (more : List ℕ) → text ≡ header ++ more → ⊥
header_uncut text e more is = none_some (codes "fmfcert 1", more) (e ∙ header_cut text more is)

pub header_other : (text line rest : List ℕ) → Some (line, rest) ≡ cut 10 text → bytes_eq line (codes "fmfcert 1") ≡ false → (more : List ℕ) → text ≡ header ++ more → ⊥
header_other text line rest e f more is =
    let pair : Some (line, rest) ≡ Some (codes "fmfcert 1", more) = e ∙ header_cut text more is in
    let same : line ≡ codes "fmfcert 1" = ap first_or pair in
    both_ways (bytes_eq line (codes "fmfcert 1")) f (ap (λ (l : List ℕ). bytes_eq l (codes "fmfcert 1")) same)
  where
    first_or : Option (List ℕ × List ℕ) → List ℕ
    first_or None = []
    first_or (Some p) = p.0

-- no line
pub no_row_uncut : (text : List ℕ) → None ≡ cut 10 text → HasNoRow text
no_row_uncut text e row more h =
    let some = first_row_again text more row h in
    none_some (join_with_byte 32 (parts_of_row row), more) (e ∙ some.0)

pub no_row_read : (text line more : List ℕ) → Some (line, more) ≡ cut 10 text → None ≡ row_in (parts_in line) → HasNoRow text
no_row_read text line more e f row rest h =
    let some = first_row_again text rest row h in
    let pair : Some (line, more) ≡ Some (join_with_byte 32 (parts_of_row row), rest) = e ∙ some.0 in
    let same : line ≡ join_with_byte 32 (parts_of_row row) = ap first_or pair in
    none_some row (f ∙ (ap (λ (l : List ℕ). row_in (parts_in l)) same ∙ some.1))
  where
    first_or : Option (List ℕ × List ℕ) → List ℕ
    first_or None = []
    first_or (Some p) = p.0

-- a text has one first line
pub one_row : (text : List ℕ) (r s : Row) (x y : List ℕ) → IsFirstRow text r x → IsFirstRow text s y → (r ≡ s) × (x ≡ y)
one_row text r s x y h k =
    let a = first_row_again text x r h in
    let b = first_row_again text y s k in
    let pair : Some (join_with_byte 32 (parts_of_row r), x) ≡ Some (join_with_byte 32 (parts_of_row s), y) = sym a.0 ∙ b.0 in
    let parts : join_with_byte 32 (parts_of_row r) ≡ join_with_byte 32 (parts_of_row s) = ap first_or pair in
    let row : Some r ≡ Some s = sym a.1 ∙ (ap (λ (l : List ℕ). row_in (parts_in l)) parts ∙ b.1) in
    (cc row, ap second_or pair)
  where
    first_or : Option (List ℕ × List ℕ) → List ℕ
    first_or None = []
    first_or (Some p) = p.0

    second_or : Option (List ℕ × List ℕ) → List ℕ
    second_or None = []
    second_or (Some p) = p.1

-- a line has a byte
pub no_text : (r : Row) (x : List ℕ) → FitsRow r → spelling_of_row r ++ x ≡ [] → ⊥
no_text r x h e =
    let long = ap length (text_of_row r h) ∙ length-append (join_with_byte 32 (parts_of_row r)) line_feed in
    let all = sym (length-append (spelling_of_row r) x) ∙ ap length e in
    omega (arith, long, all)

pub behind_header : (text : List ℕ) (l m : List ℕ) → text ≡ header ++ l → text ≡ header ++ m → l ≡ m
behind_header text l m e f =
    let pair : Some (codes "fmfcert 1", l) ≡ Some (codes "fmfcert 1", m) = sym (header_cut text l e) ∙ header_cut text m f in
    ap behind_or pair
  where
    behind_or : Option (List ℕ × List ℕ) → List ℕ
    behind_or None = []
    behind_or (Some p) = p.1
