-- The pieces of a text (SMT-LIB 2.6, lexicon): which piece stands at the front of a text, by its first byte, and the
-- pieces that cover a text.
use Rattle.std.specs.Prelude.{◌≡◌, ℕ, ◌+◌, ◌-◌, ◌<◌, ◌≤◌, ⊤, ◌==◌, Bool, true, false, ◌&&◌, ◌||◌, not, nat_le, nat_lt, cond, List, [], ◌∷◌, length, drop, take_while, Option, Some, None, codes}
use Rattle.std.specs.List.{list_all, list_any}
use Rattle.fm_sexp.specs.declared.pieces.Kind.{Kind}
use Rattle.fm_sexp.specs.declared.pieces.Shape.{Shape}
use Rattle.fm_sexp.specs.declared.pieces.Piece.{Piece}
use Rattle.fm_sexp.specs.declared.pieces.Front.{Front}

-- tab, line feed, carriage return, space
abbrev pub is_blank : ℕ → Bool
is_blank b = b == 9 || b == 10 || b == 13 || b == 32

abbrev pub is_within : ℕ → ℕ → ℕ → Bool
is_within low high b = nat_le low b && nat_le b high

abbrev pub is_digit : ℕ → Bool
is_digit b = is_within 48 57 b

-- a letter, a digit or one of the symbol characters of the standard
unfoldable pub is_symbol_byte : ℕ → Bool
is_symbol_byte b = is_within 97 122 b || is_within 65 90 b || is_digit b || list_any (λ c. c == b) (codes "~!@$%^&*_-+=<>.?/")

abbrev pub is_hex_digit : ℕ → Bool
is_hex_digit b = is_digit b || is_within 97 102 b || is_within 65 70 b

abbrev pub is_binary_digit : ℕ → Bool
is_binary_digit b = b == 48 || b == 49

abbrev pub found : Shape → ℕ → Front
found shape len = Front.Found (record { shape = shape; len = len })

-- a comment goes on to before the next line feed or carriage return, or to the end
abbrev pub is_comment_byte : ℕ → Bool
is_comment_byte b = not (b == 10 || b == 13)

-- The length of a literal in quotes, behind the first of them: it ends at the first quote that isn't one of a pair,
-- where pairs are taken from left to right. `n` is what was passed, and `paired` says that the byte before is a quote
-- that ends the literal unless it is the first of a pair.
abbrev pub text_from : ℕ → Bool → List ℕ → Option ℕ
text_from n true [] = Some n
text_from n false [] = None
text_from n true (b ∷ bs) = cond (b == 34) (text_from (n + 1) false bs) (Some n)
text_from n false (b ∷ bs) = text_from (n + 1) (b == 34) bs

abbrev pub text_front : Option ℕ → Front
text_front None = Front.Unclosed
text_front (Some n) = found (Shape.Word Kind.Text) (1 + n)

-- a quoted symbol ends at the next bar; a backslash in it is wrong
abbrev pub is_quoted_byte : ℕ → Bool
is_quoted_byte b = not (b == 124 || b == 92)

abbrev pub quoted_end : ℕ → List ℕ → Front
quoted_end len [] = Front.Unclosed
quoted_end len (b ∷ bs) = cond (b == 124) (found (Shape.Word Kind.Quoted) (2 + len)) (Front.Wrong (1 + len))

abbrev pub quoted_front : List ℕ → Front
quoted_front bs = let len = length (take_while is_quoted_byte bs) in quoted_end len (drop len bs)

-- `0`, or digits that don't begin with 0
unfoldable pub is_numeral : List ℕ → Bool
is_numeral [] = false
is_numeral (b ∷ []) = is_digit b
is_numeral (b ∷ c ∷ bs) = not (b == 48) && list_all is_digit (b ∷ c ∷ bs)

-- a point and one or more digits
unfoldable pub is_fraction : List ℕ → Bool
is_fraction [] = false
is_fraction (b ∷ []) = false
is_fraction (b ∷ c ∷ bs) = b == 46 && list_all is_digit (c ∷ bs)

abbrev pub is_decimal : List ℕ → Bool
is_decimal w = let whole = take_while is_digit w in is_numeral whole && is_fraction (drop (length whole) w)

-- the kind of a longest run of symbol bytes that begins with a digit
abbrev pub number_front : List ℕ → Front
number_front w = cond (is_numeral w) (found (Shape.Word Kind.Numeral) (length w)) (cond (is_decimal w) (found (Shape.Word Kind.Decimal) (length w)) (Front.Wrong 0))

abbrev pub is_some_of : (ℕ → Bool) → List ℕ → Bool
is_some_of test [] = false
is_some_of test (b ∷ bs) = list_all test (b ∷ bs)

-- the run of symbol bytes behind a `#`: `x` and hexadecimal digits, or `b` and digits 0 and 1
unfoldable pub hash_front : List ℕ → Front
hash_front [] = Front.Wrong 0
hash_front (b ∷ bs) =
    cond (b == 120 && is_some_of is_hex_digit bs) (found (Shape.Word Kind.Hex) (2 + length bs))
    (cond (b == 98 && is_some_of is_binary_digit bs) (found (Shape.Word Kind.Binary) (2 + length bs)) (Front.Wrong 0))

-- the run of symbol bytes behind a `:`, which isn't empty
abbrev pub keyword_front : List ℕ → Front
keyword_front [] = Front.Wrong 0
keyword_front (b ∷ bs) = found (Shape.Word Kind.Keyword) (2 + length bs)

-- the piece at the front of a text, by its first byte; at `Wrong off` nothing covers the text, and off is the place of
-- the wrong byte; at `Unclosed` the text ends within a literal or a quoted symbol, or is empty
unfoldable pub piece_of : List ℕ → Front
piece_of [] = Front.Unclosed
piece_of (b ∷ bs) =
    cond (is_blank b) (found Shape.Blank 1)
    (cond (b == 40) (found Shape.Open 1)
    (cond (b == 41) (found Shape.Close 1)
    (cond (b == 59) (found Shape.Comment (1 + length (take_while is_comment_byte bs)))
    (cond (b == 34) (text_front (text_from 0 false bs))
    (cond (b == 124) (quoted_front bs)
    (cond (b == 58) (keyword_front (take_while is_symbol_byte bs))
    (cond (b == 35) (hash_front (take_while is_symbol_byte bs))
    (cond (is_digit b) (number_front (take_while is_symbol_byte (b ∷ bs)))
    (cond (is_symbol_byte b) (found (Shape.Word Kind.Symbol) (length (take_while is_symbol_byte (b ∷ bs)))) (Front.Wrong 0))))))))))

-- what stands at the front of a text of so many bytes lies in it
abbrev pub Fits : ℕ → Front → Type 0
Fits n (Front.Found p) = (0 < p.len) × (p.len ≤ n)
Fits n (Front.Wrong off) = off < n
Fits n Front.Unclosed = ⊤

-- the pieces cover the text from one place to another
abbrev pub Covers : List ℕ → ℕ → List Piece → ℕ → Type 0
Covers text at [] to = at ≡ to
Covers text at (p ∷ ps) to = (piece_of (drop at text) ≡ Front.Found p) × Covers text (at + p.len) ps to

-- the number of open parentheses after a piece, which is from 0 to 200
abbrev pub depth_with : ℕ → Shape → Option ℕ
depth_with d Shape.Open = cond (nat_lt d 200) (Some (d + 1)) None
depth_with d Shape.Close = cond (nat_lt 0 d) (Some (d - 1)) None
depth_with d Shape.Blank = Some d
depth_with d Shape.Comment = Some d
depth_with d (Shape.Word kind) = Some d

abbrev pub depth_from : Option ℕ → List Piece → Option ℕ
depth_from None ps = None
depth_from (Some d) [] = Some d
depth_from (Some d) (p ∷ ps) = depth_from (depth_with d p.shape) ps

-- the depth after the pieces, where it was lawful all the way
abbrev pub depth_after : List Piece → Option ℕ
depth_after ps = depth_from (Some 0) ps
