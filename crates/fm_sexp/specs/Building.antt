-- What a reader holds while it goes through a text.
use Rattle.std.specs.Prelude.{◌≡◌, ℕ, List, [], ◌∷◌, ◌++◌, length, Some}
use Rattle.fm_base.specs.declared.refusal.Reason.{Reason}
use Rattle.fm_sexp.specs.Pieces.{Covers, depth_after, depth_with}
use Rattle.fm_sexp.specs.Items.{Token, tokens, flat_all}
use Rattle.fm_sexp.specs.declared.pieces.Shape.{Shape}
use Rattle.fm_sexp.specs.declared.pieces.Piece.{Piece}
use Rattle.fm_sexp.specs.declared.building.Frame.{Frame}
use Rattle.fm_sexp.specs.declared.building.Builder.{Builder}

-- the reason why a piece can't follow at a depth
abbrev pub IsStopped : ℕ → Shape → Reason → Type 0
IsStopped d shape Reason.Unbalanced = (d ≡ 0) × (shape ≡ Shape.Close)
IsStopped d shape Reason.TooDeep = (d ≡ 200) × (shape ≡ Shape.Open)
IsStopped d shape _ = ⊥

-- the words and parentheses that the open lists hold
abbrev pub before_all : List Frame → List Token
before_all [] = []
before_all (f ∷ fs) = flat_all f.before.items ++ Token.Opened f.start f.at ∷ before_all fs

abbrev pub so_far : Builder → List Token
so_far b = before_all b.frames.items ++ flat_all b.current.items

-- the words and parentheses of the whole pieces up to a place
pub record IsReadTo (text : List ℕ) (to : ℕ) (depth : ℕ) (read : List Token) : Type 0 where
  pub pieces : List Piece
  pub covers : Covers text 0 pieces to
  pub depths : depth_after pieces ≡ Some depth
  pub tree : read ≡ tokens text 0 pieces

-- the lists that are open after a piece, which is lawful
abbrev pub OpensBy : Builder → Builder → Shape → Type 0
OpensBy old new shape = depth_with (length old.frames.items) shape ≡ Some (length new.frames.items)
