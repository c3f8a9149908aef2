-- The links that explain why two nodes of an explanation forest are joined (Nieuwenhuis and Oliveras): those on the path
-- between them, and for each link by congruence among these those on the paths between the arguments, place by place.
use Rattle.std.specs.Prelude.{◌≡◌, ℕ, zero, suc, ◌<◌, ◌⊎◌, Bool, true, List, [], ◌∷◌, ◌++◌, if◌then◌else◌, map, slice_get, Option, Some, None}
use Rattle.std.specs.List.{AllZip, filter_map, flat_map}
use Rattle.fm_base.specs.declared.ids.Lit.{Lit}
use Rattle.fm_bank.specs.Closure.{object}
use Rattle.fm_bank.specs.Terms.{Term}
use Rattle.fm_bank.specs.declared.atom.Atom.{Atom}
use Rattle.fm_cells.specs.Members.{is_on}
use Rattle.fm_cells.specs.declared.edge.Cause.{Cause}
use Rattle.fm_cells.specs.declared.edge.Edge.{Edge}
use Rattle.fm_cong.specs.Facts.{sides}
use Rattle.fm_cong.specs.Paths.{AreJoinedBefore, IsOnPath}

abbrev pub args_of : Option Term → List ℕ
args_of None = []
args_of (Some t) = t.args

-- the arguments of the term at a node; yes and no have none
abbrev pub args_at : List Term → ℕ → List ℕ
args_at terms zero = []
args_at terms (suc zero) = []
args_at terms (suc (suc n)) = args_of (slice_get terms n)

-- the set has the links of the paths between the arguments, one by one, of the two terms of a link by congruence
abbrev pub HasArguments : List Term → (ℕ → Option Edge) → (ℕ → Bool) → ℕ → Type 0
HasArguments terms link S e =
    (l : Edge) → link e ≡ Some l → l.cause ≡ Cause.Congruence → (i s t : ℕ) → slice_get (args_at terms e) i ≡ Some s → slice_get (args_at terms l.to) i ≡ Some t → (f : ℕ) → IsOnPath link (object s) (object t) f → S f ≡ true

-- a set with the links of the path between a and b, and for each link by congruence with those of its arguments' paths
pub record IsExplaining (terms : List Term) (link : ℕ → Option Edge) (a b : ℕ) (S : ℕ → Bool) : Type 0 where
  pub start : (e : ℕ) → IsOnPath link a b e → S e ≡ true
  pub args : (e : ℕ) → S e ≡ true → HasArguments terms link S e

-- the links on the paths meant: those of the least such set
abbrev pub IsMeant : List Term → (ℕ → Option Edge) → ℕ → ℕ → ℕ → Type 0
IsMeant terms link a b e = (S : ℕ → Bool) → IsExplaining terms link a b S → S e ≡ true

-- a literal of a link by a fact on these paths
pub record IsLitMeant (terms : List Term) (link : ℕ → Option Edge) (a b : ℕ) (lit : Lit) : Type 0 where
  pub e : ℕ
  pub edge : Edge
  pub meant : IsMeant terms link a b e
  pub link_is : link e ≡ Some edge
  pub cause_is : edge.cause ≡ Cause.Fact lit

-- the nodes of a link, and of one by congruence the arguments too
abbrev pub argument_nodes : Cause → List ℕ → List ℕ → List ℕ
argument_nodes (Cause.Fact lit) xs ys = []
argument_nodes Cause.Congruence xs ys = map (λ s. object s) xs ++ map (λ s. object s) ys

abbrev pub nodes_of : List Term → ℕ → Option Edge → List ℕ
nodes_of terms e None = []
nodes_of terms e (Some l) = e ∷ l.to ∷ argument_nodes l.cause (args_at terms e) (args_at terms l.to)

-- a node of a link on these paths; a path without links is between a node and itself
pub record IsLinkNode (terms : List Term) (link : ℕ → Option Edge) (a b x : ℕ) : Type 0 where
  pub e : ℕ
  pub meant : IsMeant terms link a b e
  pub on : is_on (nodes_of terms e (link e)) x ≡ true

abbrev pub IsNodeMeant : List Term → (ℕ → Option Edge) → ℕ → ℕ → ℕ → Type 0
IsNodeMeant terms link a b x = (x ≡ a) ⊎ ((x ≡ b) ⊎ IsLinkNode terms link a b x)

-- Two terms of one symbol, whose arguments are joined, one by one, by paths of links of smaller time.
pub record AreCongruentTerms (terms : List Term) (link : ℕ → Option Edge) (time u v : ℕ) : Type 0 where
  pub m : ℕ
  pub n : ℕ
  pub left : Term
  pub right : Term
  pub u_is : u ≡ object m
  pub v_is : v ≡ object n
  pub left_is : slice_get terms m ≡ Some left
  pub right_is : slice_get terms n ≡ Some right
  pub symbols : left.symbol ≡ right.symbol
  pub args : AllZip (λ s t. AreJoinedBefore link time (object s) (object t)) left.args right.args

-- the nodes of each link by congruence are such terms
abbrev pub AreCongruences : List Term → (ℕ → Option Edge) → Type 0
AreCongruences terms link = (e : ℕ) (l : Edge) → link e ≡ Some l → l.cause ≡ Cause.Congruence → AreCongruentTerms terms link l.time e l.to

-- a link on the path between the arguments at one of the first n places
pub record IsOnArguments (link : ℕ → Option Edge) (xs ys : List ℕ) (n e : ℕ) : Type 0 where
  pub i : ℕ
  pub s : ℕ
  pub t : ℕ
  pub below : i < n
  pub left : slice_get xs i ≡ Some s
  pub right : slice_get ys i ≡ Some t
  pub on : IsOnPath link (object s) (object t) e

-- a node once it is among the others, and some nodes, each once
abbrev pub with_node : List ℕ → ℕ → List ℕ
with_node nodes e = if is_on nodes e then nodes else nodes ++ e ∷ []

abbrev pub with_all : List ℕ → List ℕ → List ℕ
with_all nodes [] = nodes
with_all nodes (x ∷ xs) = with_all (with_node nodes x) xs

-- the literal of a link by a fact
abbrev pub lit_of : Cause → Option Lit
lit_of (Cause.Fact lit) = Some lit
lit_of Cause.Congruence = None

abbrev pub lit_at : Option Edge → Option Lit
lit_at None = None
lit_at (Some l) = lit_of l.cause

-- the nodes of two nodes and of links
abbrev pub path_nodes : List Term → (ℕ → Option Edge) → ℕ → ℕ → List ℕ → List ℕ
path_nodes terms link a b met = a ∷ b ∷ flat_map (λ e. nodes_of terms e (link e)) met

-- the term at a node
abbrev pub term_at : ℕ → Option ℕ
term_at zero = None
term_at (suc zero) = None
term_at (suc (suc n)) = Some n

-- what literals join, by their atoms
abbrev pub sides_at : Option Atom → Bool → Option (ℕ × ℕ)
sides_at None positive = None
sides_at (Some a) positive = sides a positive

abbrev pub pairs_by : List Atom → List Lit → List (ℕ × ℕ)
pairs_by atoms lits = filter_map (λ (k : Lit). sides_at (slice_get atoms k.atom.0) k.positive) lits
