-- When the parts of a candidate fit together.
use Rattle.std.specs.Prelude.{◌≡◌, ℕ, ◌<◌, ◌⊎◌, Bool, true, false, List, [], ◌∷◌, slice_get, Some}
use Rattle.std.specs.List.{list_all}
use Rattle.fm_base.specs.Normal.{signed}
use Rattle.fm_base.specs.Resolution.{Has}
use Rattle.fm_base.specs.declared.signature.Rank.{Rank}
use Rattle.fm_base.specs.declared.signature.Ty.{Ty}
use Rattle.fm_bank.specs.Closure.{are_related, object, yes}
use Rattle.fm_bank.specs.Interning.{are_of_one_sort}
use Rattle.fm_bank.specs.Terms.{Term, are_terms, is_type, type_of}
use Rattle.fm_bank.specs.declared.atom.Atom.{Atom}
use Rattle.fm_bank.specs.declared.literal.Literal.{Literal}
use Rattle.fm_rounds.specs.Rounds.{Content, reached}

abbrev pub is_declared : Ty → Bool
is_declared Ty.Bool = false
is_declared (Ty.Of s) = true

-- each argument of a term of the list is in it or among these, but for those terms that are among these themselves
abbrev pub ArgumentsIn : List Term → List ℕ → List ℕ → Type 0
ArgumentsIn terms over others = (n k : ℕ) (t : Term) → Has over n → slice_get terms n ≡ Some t → Has t.args k → Has others n ⊎ (Has over k ⊎ Has others k)

abbrev pub AreTermsOf : List Term → List ℕ → Type 0
AreTermsOf terms over = (n : ℕ) → Has over n → (t : Term) × (slice_get terms n ≡ Some t)

abbrev pub IsReachedTerm : Content → ℕ → Type 0
IsReachedTerm c n = Has (reached c).terms n

-- reached terms with one symbol and related arguments are related
abbrev pub AreCongruent : Content → Type 0
AreCongruent c =
    (a b : ℕ) (t u : Term) → IsReachedTerm c a → IsReachedTerm c b → slice_get c.terms a ≡ Some t → slice_get c.terms b ≡ Some u
    → t.symbol ≡ u.symbol → are_related c.same t.args u.args ≡ true → c.same (object a) (object b) ≡ true

-- each sort has a term at the start
abbrev pub AreInhabited : Content → Type 0
AreInhabited c = (s : ℕ) → s < c.sig.sorts → (n : ℕ) × Has c.start n × (is_type (type_of c.sig c.terms n) (Ty.Of (record { 0 = s })) ≡ true)

-- no symbol has a Bool argument; the test is an equivalence that keeps sorts, and a congruence on what is reached; the terms
-- at the start and of each instance are terms with their subterms; each sort has a term at the start
pub record IsGrounded (c : Content) : Type 0 where
  pub terms : are_terms c.sig c.terms ≡ true
  pub declared : (f : ℕ) (rank : Rank) → slice_get c.sig.ranks f ≡ Some rank → list_all is_declared rank.args ≡ true
  pub reflexive : (x : ℕ) → c.same x x ≡ true
  pub symmetric : (x y : ℕ) → c.same x y ≡ true → c.same y x ≡ true
  pub transitive : (x y z : ℕ) → c.same x y ≡ true → c.same y z ≡ true → c.same x z ≡ true
  pub congruent : AreCongruent c
  pub typed : (a b : ℕ) → c.same (object a) (object b) ≡ true → type_of c.sig c.terms a ≡ type_of c.sig c.terms b
  pub start_terms : AreTermsOf c.terms c.start
  pub start_closed : ArgumentsIn c.terms c.start []
  pub added_terms : (i : List ℕ × List ℕ) → Has c.added i → AreTermsOf c.terms i.1
  pub added_closed : (i : List ℕ × List ℕ) → Has c.added i → ArgumentsIn c.terms i.1 i.0
  pub inhabited : AreInhabited c

-- an atom over reached terms, an equality of one declared sort or a predicate's
abbrev pub IsReached : Content → Atom → Type 0
IsReached c (Atom.Equal a b) = IsReachedTerm c a.0 × IsReachedTerm c b.0 × (are_of_one_sort (type_of c.sig c.terms a.0) (type_of c.sig c.terms b.0) ≡ true)
IsReached c (Atom.Pred t) = IsReachedTerm c t.0 × (is_type (type_of c.sig c.terms t.0) Ty.Bool ≡ true)
IsReached c (Atom.Card s k) = ⊥
IsReached c (Atom.Bound n) = ⊥

abbrev pub AreReached : Content → List Literal → Type 0
AreReached c [] = Unit {0}
AreReached c (l ∷ ls) = IsReached c l.atom × AreReached c ls

-- the truth of a literal by the test alone
abbrev pub atom_by : Content → Atom → Bool
atom_by c (Atom.Equal a b) = c.same (object a.0) (object b.0)
atom_by c (Atom.Pred t) = c.same (object t.0) yes
atom_by c (Atom.Card s k) = false
atom_by c (Atom.Bound n) = false

abbrev pub literal_by : Content → Literal → Bool
literal_by c l = signed l.positive (atom_by c l.atom)
