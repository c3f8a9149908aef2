-- Paths in the explanation forest, and what its links say.
use Rattle.std.specs.Prelude.{◌≡◌, ℕ, ◌<◌, ◌⊎◌, Bool, true, not, List, [], ◌∷◌, Option, Some}
use Rattle.std.specs.List.{AllZip, Contains}
use mathlib.Core.Bool.{beq}
use Rattle.fm_base.specs.declared.ids.Lit.{Lit}
use Rattle.fm_bank.specs.Closure.{Shape, object}
use Rattle.fm_cells.specs.Forest.{AreInOneTree, AreTrees, HasEdge, IsUp}
use Rattle.fm_cells.specs.declared.edge.Cause.{Cause}
use Rattle.fm_cells.specs.declared.edge.Edge.{Edge}
use Rattle.fm_cells.specs.Members.{is_on}
pub use Rattle.fm_cong.specs.Facts.{joined_by, sides}
use Rattle.fm_cong.specs.declared.fact.Fact.{Fact}

abbrev pub is_on_one : List ℕ → List ℕ → ℕ → Bool
is_on_one xs ys e = not (beq (is_on xs e) (is_on ys e))

-- the links on the path between two nodes of one tree are those on exactly one of their ways up
pub record IsOnPath (link : ℕ → Option Edge) (u v e : ℕ) : Type 0 where
  pub left : List ℕ
  pub right : List ℕ
  pub top : ℕ
  pub up_left : IsUp link u left top
  pub up_right : IsUp link v right top
  pub once : is_on_one left right e ≡ true

-- two nodes are in one tree, and the links on the path between them are of smaller time
pub record AreJoinedBefore (link : ℕ → Option Edge) (time u v : ℕ) : Type 0 where
  pub tree : AreInOneTree link u v
  pub earlier : (e : ℕ) (l : Edge) → IsOnPath link u v e → link e ≡ Some l → l.time < time

-- a walk along links of smaller time, whatever way they lead
abbrev pub IsStep : (ℕ → Option Edge) → ℕ → ℕ → ℕ → Type 0
IsStep link time a b = (l : Edge) × HasEdge link a l × (l.to ≡ b) × (l.time < time)

abbrev pub IsWalk : (ℕ → Option Edge) → ℕ → ℕ → List ℕ → ℕ → Type 0
IsWalk link time a [] b = a ≡ b
IsWalk link time a (c ∷ cs) b = IsStep link time a c × IsWalk link time c cs b

-- a literal that was read joins the two nodes
pub record IsJoinedBy (facts : List Fact) (lit : Lit) (u v : ℕ) : Type 0 where
  pub fact : Fact
  pub read : Contains facts fact
  pub lit_is : fact.lit ≡ lit
  pub sides_are : (joined_by fact ≡ Some (u, v)) ⊎ (joined_by fact ≡ Some (v, u))

-- two terms of one symbol, whose arguments are joined, one by one, by walks of smaller time
pub record AreCongruentBefore (shapes : List Shape) (link : ℕ → Option Edge) (time u v : ℕ) : Type 0 where
  pub left : Shape
  pub right : Shape
  pub left_in : Contains shapes left
  pub right_in : Contains shapes right
  pub u_is : u ≡ object left.number
  pub v_is : v ≡ object right.number
  pub symbols : left.symbol ≡ right.symbol
  pub args : AllZip (λ s t. (cs : List ℕ) × IsWalk link time (object s) cs (object t)) left.args right.args

-- what joins the two nodes of a link
abbrev pub IsJustified : List Shape → List Fact → (ℕ → Option Edge) → Cause → ℕ → ℕ → ℕ → Type 0
IsJustified shapes facts link (Cause.Fact lit) time u v = IsJoinedBy facts lit u v
IsJustified shapes facts link Cause.Congruence time u v = AreCongruentBefore shapes link time u v

abbrev pub AreJustified : List Shape → List Fact → (ℕ → Option Edge) → Type 0
AreJustified shapes facts link = (e : ℕ) (l : Edge) → link e ≡ Some l → IsJustified shapes facts link l.cause l.time e l.to

-- The explanation forest over classes: its trees are the classes, what joins the nodes of each link was read or is a
-- congruence of earlier links, and each link has a time before now.
pub record IsForest (shapes : List Shape) (facts : List Fact) (link : ℕ → Option Edge) (class : ℕ → ℕ) (now : ℕ) : Type 0 where
  pub trees : AreTrees link class
  pub justified : AreJustified shapes facts link
  pub past : (e : ℕ) (l : Edge) → link e ≡ Some l → l.time < now

-- the arguments are of one class, one by one
abbrev pub HaveOneClass : (ℕ → ℕ) → List ℕ → List ℕ → Type 0
HaveOneClass class xs ys = AllZip (λ s t. class (object s) ≡ class (object t)) xs ys

-- what readers of the forest see of a link by congruence
pub record AreCongruentByPaths (shapes : List Shape) (link : ℕ → Option Edge) (time u v : ℕ) : Type 0 where
  pub left : Shape
  pub right : Shape
  pub left_in : Contains shapes left
  pub right_in : Contains shapes right
  pub u_is : u ≡ object left.number
  pub v_is : v ≡ object right.number
  pub symbols : left.symbol ≡ right.symbol
  pub args : AllZip (λ s t. AreJoinedBefore link time (object s) (object t)) left.args right.args
