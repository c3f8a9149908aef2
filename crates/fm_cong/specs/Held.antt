-- What an e-graph holds between two calls, and what its calls make of it.
use Rattle.std.specs.Prelude.{◌≡◌, ◌↔◌, ℕ, ◌==◌, Bool, true, false, if◌then◌else◌, List, [], ◌∷◌, ◌++◌, length, slice_get, Option, None, Some}
use Rattle.std.specs.List.{All, list_any}
use Rattle.fm_bank.specs.Closure.{AreApart, Follows, Shape, no as the_no, object, shape_at, yes as the_yes}
use Rattle.fm_bank.specs.Terms.{Term, type_of}
use Rattle.fm_bank.specs.declared.atom.Atom.{Atom}
use Rattle.fm_base.specs.declared.ids.AtomId.{AtomId}
use Rattle.fm_base.specs.declared.ids.TermId.{TermId}
use Rattle.fm_base.specs.declared.signature.Sig.{Sig}
use Rattle.fm_base.specs.declared.signature.Ty.{Ty}
use Rattle.fm_cells.specs.Forest.{link_of}
use Rattle.fm_cells.specs.declared.edge.Edge.{Edge}
use Rattle.fm_cong.specs.Facts.{pairs_of, unequal_of}
use Rattle.fm_cong.specs.declared.fact.Fact.{Fact}

-- the registered terms and their types, the facts read, what had been read as each open level was opened, how many of the
-- registered terms are entered (those that came first), and the links of the
-- explanation forest by node, up to the last
pub record Held : Type 0 where
  pub shapes : List Shape
  pub types : List (TermId × Ty)
  pub facts : List Fact
  pub levels : List (List Fact)
  pub entered : ℕ
  pub links : List (Option Edge)

-- the link of a node
abbrev pub link_held : Held → ℕ → Option Edge
link_held g = link_of g.links

-- the same terms are registered
pub record HasSameTerms (old new : Held) : Type 0 where
  pub shapes : new.shapes ≡ old.shapes
  pub types : new.types ≡ old.types

abbrev pub nothing : Held
nothing = record { shapes = []; types = []; facts = []; levels = []; entered = 0; links = [] }

-- all registered terms are entered, so the classes are those of the closure
abbrev pub IsSettled : Held → Type 0
IsSettled g = g.entered ≡ length g.shapes

-- the same, once all registered terms are entered, under these links
abbrev pub all_entered : Held → List (Option Edge) → Held
all_entered g links = record { shapes = g.shapes; types = g.types; facts = g.facts; levels = g.levels; entered = length g.shapes; links = links }

-- once one more literal is read, under these links
abbrev pub with_fact : Held → Fact → List (Option Edge) → Held
with_fact g f links = record { shapes = g.shapes; types = g.types; facts = g.facts ++ f ∷ []; levels = g.levels; entered = g.entered; links = links }

-- the literal on an atom of a bank is read
abbrev pub ReadsLiteral : Held → Held → List Atom → AtomId → Bool → Type 0
ReadsLiteral old new atoms atom positive =
    (a : Atom) → slice_get atoms atom.0 ≡ Some a → new ≡ with_fact old (record { lit = record { atom = atom; positive = positive }; atom = a }) new.links

-- the term of this number is registered
abbrev pub is_registered : List Shape → ℕ → Bool
is_registered shapes n = list_any (λ (s : Shape). n == s.number) shapes

abbrev pub IsRegistered : List Shape → ℕ → Type 0
IsRegistered shapes n = is_registered shapes n ≡ true

-- a term with its type, if it has one
abbrev pub typed_as : ℕ → Option Ty → List (TermId × Ty)
typed_as n None = []
typed_as n (Some ty) = (record { 0 = n }, ty) ∷ []

-- the registered terms once a term of a bank is one of them
abbrev pub with_term : List Shape → List Term → ℕ → List Shape
with_term shapes terms n = if is_registered shapes n then shapes else shapes ++ shape_at n (slice_get terms n)

-- the types once a term of a bank is registered
abbrev pub with_type : List Shape → List (TermId × Ty) → ℕ → Option Ty → List (TermId × Ty)
with_type shapes types n ty = if is_registered shapes n then types else types ++ typed_as n ty

-- its type is that of the bank
abbrev pub NotesType : Held → Held → Sig → List Term → ℕ → Type 0
NotesType old new sig terms n = new.types ≡ with_type old.shapes old.types n (type_of sig terms n)

-- a term of a bank is registered; where all terms were entered, this one is too
pub record Registers (old new : Held) (terms : List Term) (n : ℕ) : Type 0 where
  pub shapes : new.shapes ≡ with_term old.shapes terms n
  pub facts : new.facts ≡ old.facts
  pub levels : new.levels ≡ old.levels
  pub settled : IsSettled old → IsSettled new

-- the arguments of a term of a bank are registered
abbrev pub HasArguments : List Shape → List Term → ℕ → Type 0
HasArguments shapes terms n = (t : Term) → slice_get terms n ≡ Some t → All (IsRegistered shapes) t.args

-- both sides of a pair are registered
abbrev pub AreSidesRegistered : List Shape → TermId × TermId → Type 0
AreSidesRegistered shapes p = IsRegistered shapes p.0.0 × IsRegistered shapes p.1.0

-- an equality or a predicate atom whose terms are registered
abbrev pub JoinsRegistered : List Shape → Atom → Type 0
JoinsRegistered shapes (Atom.Equal a b) = IsRegistered shapes a.0 × IsRegistered shapes b.0
JoinsRegistered shapes (Atom.Pred t) = IsRegistered shapes t.0
JoinsRegistered shapes (Atom.Card s k) = ⊥
JoinsRegistered shapes (Atom.Bound n) = ⊥

abbrev pub IsReadable : List Shape → List Atom → AtomId → Type 0
IsReadable shapes atoms atom = (a : Atom) → slice_get atoms atom.0 ≡ Some a → JoinsRegistered shapes a

-- two nodes are equal in the closure of the facts read over all registered terms
abbrev pub AreEqual : Held → ℕ → ℕ → Type 0
AreEqual g x y = Follows g.shapes (pairs_of g.facts) x y

-- a false equality says that two terms are unequal
abbrev pub AreUnequal : Held → ℕ → ℕ → Type 0
AreUnequal g a b = AreApart g.shapes (pairs_of g.facts) (unequal_of g.facts) a b

-- a predicate term is joined with yes, or with no and not with yes
pub record IsTruth (g : Held) (n : ℕ) (truth : Option Bool) : Type 0 where
  pub yes : (truth ≡ Some true) ↔ AreEqual g (object n) the_yes
  pub no : (truth ≡ Some false) ↔ (AreEqual g (object n) the_no × (AreEqual g (object n) the_yes → ⊥))
