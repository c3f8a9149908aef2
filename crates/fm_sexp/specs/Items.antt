-- What a text reads as: a list of items, or one refusal.
use Rattle.std.specs.Prelude.{◌≡◌, ◌≢◌, ℕ, ◌+◌, ◌<◌, ◌⊎◌, Bool, true, ◌&&◌, nat_le, List, [], ◌∷◌, ◌++◌, length, map, drop, Some}
use Rattle.fm_base.specs.declared.refusal.Place.{Place}
use Rattle.fm_base.specs.declared.refusal.Reason.{Reason}
use Rattle.fm_base.specs.declared.refusal.Refusal.{Refusal}
use Rattle.fm_sexp.specs.Pieces.{piece_of, Covers, depth_after}
use Rattle.fm_sexp.specs.Places.{place_of}
use Rattle.fm_sexp.specs.declared.pieces.Kind.{Kind}
use Rattle.fm_sexp.specs.declared.pieces.Shape.{Shape}
use Rattle.fm_sexp.specs.declared.pieces.Piece.{Piece}
use Rattle.fm_sexp.specs.declared.pieces.Front.{Front}
use Rattle.fm_sexp.specs.declared.items.Sexp.{Sexp}
use Rattle.fm_sexp.specs.declared.items.Sexp.TheOpen.{Sexp-F}
use Rattle.fm_sexp.specs.declared.items.Sexp.TheFolds.{fold-Sexp}

-- what the pieces of a text say of its items: words and parentheses, with their spans and places
pub data Token : Type 0 where
  Name : Kind → ℕ → ℕ → Place → Token
  Opened : ℕ → Place → Token
  Closed : ℕ → Token

abbrev pub token_of : Place → ℕ → ℕ → Shape → List Token
token_of place at len Shape.Blank = []
token_of place at len Shape.Comment = []
token_of place at len Shape.Open = Token.Opened at place ∷ []
token_of place at len Shape.Close = Token.Closed (at + len) ∷ []
token_of place at len (Shape.Word kind) = Token.Name kind at (at + len) place ∷ []

abbrev pub tokens : List ℕ → ℕ → List Piece → List Token
tokens text at [] = []
tokens text at (p ∷ ps) = token_of (place_of text at) at p.len p.shape ++ tokens text (at + p.len) ps

abbrev pub joined : List (List Token) → List Token
joined [] = []
joined (ts ∷ rest) = ts ++ joined rest

-- the words and parentheses of an item
abbrev pub flat_step : Sexp-F (List Token) → List Token
flat_step (Sexp-F.Word kind start end at) = Token.Name kind start end at ∷ []
flat_step (Sexp-F.List items start end at) = Token.Opened start at ∷ (joined items ++ Token.Closed end ∷ [])

abbrev pub flat : Sexp → List Token
flat = fold-Sexp (List Token) flat_step

abbrev pub flat_all : List Sexp → List Token
flat_all items = joined (map flat items)

-- the text reads as these items: pieces cover it, its depth is lawful and ends at 0, and the words and parentheses of
-- the items are those of the pieces
pub record ReadsAs (text : List ℕ) (items : List Sexp) : Type 0 where
  pub pieces : List Piece
  pub covers : Covers text 0 pieces (length text)
  pub depths : depth_after pieces ≡ Some 0
  pub tree : flat_all items ≡ tokens text 0 pieces

-- what can't go on at this depth before the rest of a text; off is the place of the fault behind the rest's first byte
abbrev pub IsFault : Reason → ℕ → List ℕ → ℕ → Type 0
IsFault Reason.Lexical d rest off = piece_of rest ≡ Front.Wrong off
IsFault Reason.Unbalanced d rest off = (d ≡ 0) × (off ≡ 0) × ((len : ℕ) × (piece_of rest ≡ Front.Found (record { shape = Shape.Close; len = len })))
IsFault Reason.TooDeep d rest off = (d ≡ 200) × (off ≡ 0) × ((len : ℕ) × (piece_of rest ≡ Front.Found (record { shape = Shape.Open; len = len })))
IsFault Reason.UnexpectedEnd d rest off = (off ≡ length rest) × (((rest ≢ []) × (piece_of rest ≡ Front.Unclosed)) ⊎ ((0 < d) × (rest ≡ [])))
IsFault _ d rest off = ⊥

-- the text is refused: whole pieces with lawful depths, followed by exactly one fault
pub record IsRefused (text : List ℕ) (refusal : Refusal) : Type 0 where
  pub pieces : List Piece
  pub to : ℕ
  pub depth : ℕ
  pub off : ℕ
  pub covers : Covers text 0 pieces to
  pub depths : depth_after pieces ≡ Some depth
  pub fault : IsFault refusal.reason depth (drop to text) off
  pub stands : refusal.at ≡ place_of text (to + off)

-- the bars of a quoted symbol
abbrev pub bars_of : Kind → ℕ
bars_of Kind.Quoted = 2
bars_of Kind.Symbol = 0
bars_of Kind.Keyword = 0
bars_of Kind.Numeral = 0
bars_of Kind.Decimal = 0
bars_of Kind.Hex = 0
bars_of Kind.Binary = 0
bars_of Kind.Text = 0

abbrev pub all_hold : List Bool → Bool
all_hold [] = true
all_hold (b ∷ bs) = b && all_hold bs

-- the spans of an item and of all its parts lie within a text of so many bytes
abbrev pub within_step : ℕ → Sexp-F Bool → Bool
within_step n (Sexp-F.Word kind start end at) = nat_le (start + bars_of kind) end && nat_le end n
within_step n (Sexp-F.List items start end at) = nat_le start end && (nat_le end n && all_hold items)

abbrev pub spans_within : ℕ → Sexp → Bool
spans_within n = fold-Sexp Bool (within_step n)

abbrev pub all_within : ℕ → List Sexp → Bool
all_within n items = all_hold (map (spans_within n) items)
