-- Good lines of a certificate: the term or the clause that a line makes after the terms and the clauses of the earlier lines
-- of its block. A clause is a set of literals, written as a list in which order and repeats mean nothing.
use Rattle.std.specs.Prelude.{◌≡◌, ◌≢◌, ℕ, ◌+◌, ◌^◌, ◌<◌, ◌⊎◌, Bool, true, false, not, nat_lt, List, [], ◌∷◌, ◌++◌, length, map, slice_get, Some}
use Rattle.std.specs.List.{flat_map, list_all, list_any}
pub use Rattle.fm_base.specs.Resolution.{Has, SameSet}
use Rattle.fm_base.specs.Resolution.{Chain as ChainBy, Resolves as ResolvesBy}
use Rattle.fm_base.specs.declared.formula.Formula.{Formula}
use Rattle.fm_base.specs.declared.signature.Sig.{Sig}
use Rattle.fm_base.specs.declared.signature.Ty.{Ty}
use Rattle.fm_bank.specs.Closure.{Clashes, Follows, Shape, facts_of, object, shapes_of}
use Rattle.fm_bank.specs.Instances.{equality, ground_literals, is_substitution}
use Rattle.fm_bank.specs.Interning.{is_atom}
use Rattle.fm_bank.specs.Subterms.{AreSubterms}
use Rattle.fm_bank.specs.declared.literal.Literal.{Literal}
use Rattle.fm_bank.specs.Terms.{Term, application, is_same, is_term, is_type, numbers, type_of}
use Rattle.fm_bank.specs.declared.clause.Clause.{Clause as FirstOrderClause}
use Rattle.fm_bank.specs.declared.atom.Atom.{Atom}
use Rattle.fm_cert.specs.declared.block.Line.{Line}

abbrev pub Clause : Type 0
Clause = List Literal

-- the literal of the same atom with the other sign
abbrev pub opposite : Literal → Literal
opposite l = record { positive = not l.positive; atom = l.atom }

-- resolution on the literal l of a: the rest of a with the rest of b, which has the opposite of l
abbrev pub Resolves : Clause → Literal → Clause → Clause → Type 0
Resolves a l b result = ResolvesBy opposite a l b result

-- one step after the other, each with an earlier clause
abbrev pub Chain : List Clause → Clause → List (Literal × ℕ) → Clause → Type 0
Chain earlier now steps result = ChainBy opposite earlier now steps result

-- sort s has at most k elements
abbrev pub at_most : ℕ → ℕ → Literal
at_most s k = record { positive = true; atom = Atom.Card (record { 0 = s }) k }

-- sort s has more than k elements
abbrev pub more_than : ℕ → ℕ → Literal
more_than s k = record { positive = false; atom = Atom.Card (record { 0 = s }) k }

-- the sizes add up to more than n
abbrev pub above : ℕ → Literal
above n = record { positive = false; atom = Atom.Bound n }

-- the sizes add up to at most n
abbrev pub within : ℕ → Literal
within n = record { positive = true; atom = Atom.Bound n }

-- some sort has at most its k elements, or the sizes add up to more than n; the sorts are numbered from s on
abbrev pub sum_clause : ℕ → List ℕ → ℕ → Clause
sum_clause s [] n = above n ∷ []
sum_clause s (k ∷ ks) n = at_most s k ∷ sum_clause (s + 1) ks n

-- what the sizes add up to at least, where each is above its k
abbrev pub total_above : List ℕ → ℕ
total_above [] = 0
total_above (k ∷ ks) = k + 1 + total_above ks

-- What is in force at a `check-sat`: a signature and assertions over it, and the clause table of the assertions, over the
-- signature with the further symbols of the table.
pub record Problem : Type 0 where
  pub sig : Sig
  pub assertions : List Formula
  pub symbols : Sig
  pub clauses : List FirstOrderClause

-- what the lines so far have made: terms, and clauses, each in the order of its lines
pub record Made : Type 0 where
  pub terms : List Term
  pub clauses : List Clause

abbrev pub nothing : Made
nothing = record { terms = []; clauses = [] }

-- the terms of a literal on terms
abbrev pub terms_of_atom : Atom → List ℕ
terms_of_atom (Atom.Equal a b) = a.0 ∷ b.0 ∷ []
terms_of_atom (Atom.Pred t) = t.0 ∷ []
terms_of_atom (Atom.Card s k) = []
terms_of_atom (Atom.Bound n) = []

abbrev pub terms_of_clause : Clause → List ℕ
terms_of_clause c = flat_map (λ (l : Literal). terms_of_atom l.atom) c

-- an equality or a predicate's atom over the terms
abbrev pub is_on_terms : Sig → List Term → Atom → Bool
is_on_terms sig terms (Atom.Equal a b) = is_atom sig terms (Atom.Equal a b)
is_on_terms sig terms (Atom.Pred t) = is_atom sig terms (Atom.Pred t)
is_on_terms sig terms (Atom.Card s k) = false
is_on_terms sig terms (Atom.Bound n) = false

-- What is so where all literals of a clause are false: pairs that are equal, predicate terms that are true, and false ones.
abbrev pub pairs_against : Bool → Atom → List (ℕ × ℕ)
pairs_against false (Atom.Equal a b) = (a.0, b.0) ∷ []
pairs_against false (Atom.Pred t) = []
pairs_against false (Atom.Card s k) = []
pairs_against false (Atom.Bound n) = []
pairs_against true a = []

abbrev pub trues_against : Bool → Atom → List ℕ
trues_against false (Atom.Pred t) = t.0 ∷ []
trues_against false (Atom.Equal a b) = []
trues_against false (Atom.Card s k) = []
trues_against false (Atom.Bound n) = []
trues_against true a = []

abbrev pub falses_against : Bool → Atom → List ℕ
falses_against true (Atom.Pred t) = t.0 ∷ []
falses_against true (Atom.Equal a b) = []
falses_against true (Atom.Card s k) = []
falses_against true (Atom.Bound n) = []
falses_against false a = []

abbrev pub pairs_of : Clause → List (ℕ × ℕ)
pairs_of c = flat_map (λ (l : Literal). pairs_against l.positive l.atom) c

abbrev pub trues_of : Clause → List ℕ
trues_of c = flat_map (λ (l : Literal). trues_against l.positive l.atom) c

abbrev pub falses_of : Clause → List ℕ
falses_of c = flat_map (λ (l : Literal). falses_against l.positive l.atom) c

abbrev pub facts_against : Clause → List (ℕ × ℕ)
facts_against c = facts_of (pairs_of c) (trues_of c) (falses_of c)

-- the sides of a positive equality follow equal
abbrev pub Joins : List Shape → List (ℕ × ℕ) → Bool → Atom → Type 0
Joins shapes facts true (Atom.Equal a b) = Follows shapes facts (object a.0) (object b.0)
Joins shapes facts true (Atom.Pred t) = ⊥
Joins shapes facts true (Atom.Card s k) = ⊥
Joins shapes facts true (Atom.Bound n) = ⊥
Joins shapes facts false a = ⊥

abbrev pub JoinsSome : List Shape → List (ℕ × ℕ) → Clause → Type 0
JoinsSome shapes facts [] = ⊥
JoinsSome shapes facts (l ∷ ls) = Joins shapes facts l.positive l.atom ⊎ JoinsSome shapes facts ls

-- By congruence closure over the subterms of its literals and of the support, the literals can't all be false.
pub record IsConflict (sig : Sig) (terms : List Term) (lits : Clause) (support : List ℕ) : Type 0 where
  pub on_terms : list_all (λ (l : Literal). is_on_terms sig terms l.atom) lits ≡ true
  pub there : list_all (λ n. nat_lt n (length terms)) support ≡ true
  pub over : List ℕ
  pub subterms : AreSubterms terms (terms_of_clause lits ++ support) over
  pub closes : Clashes (shapes_of terms over) (facts_against lits) ⊎ JoinsSome (shapes_of terms over) (facts_against lits) lits

-- an equality of each two of the terms, by place
abbrev pub equals_with : ℕ → List ℕ → Clause
equals_with a bs = map (λ b. record { positive = true; atom = equality a b }) bs

abbrev pub some_equal : List ℕ → Clause
some_equal [] = []
some_equal (a ∷ as') = equals_with a as' ++ some_equal as'

-- these terms are of the sort
abbrev pub are_of_sort : Sig → List Term → Ty → List ℕ → Bool
are_of_sort sig terms sort ns = list_all (λ n. is_type (type_of sig terms n) sort) ns

-- an instance of a clause of the table, all of whose terms are there
abbrev pub IsInstanceOf : Problem → List Term → List ℕ → FirstOrderClause → Clause → Type 0
IsInstanceOf p terms subst input literals = (is_substitution p.symbols terms input.vars subst ≡ true) × (ground_literals terms subst input.lits ≡ Some literals)

-- The line is good after what was made, and makes the clause, up to order and repeats.
abbrev pub MakesClause : Problem → Made → Line → Clause → Type 0
MakesClause p made (Line.Term f args) clause = ⊥
MakesClause p made (Line.Instance c subst) clause = (input : FirstOrderClause) × (literals : Clause) × (slice_get p.clauses c ≡ Some input) × IsInstanceOf p made.terms (numbers subst) input literals × SameSet clause literals
MakesClause p made (Line.Equality lits support) clause = IsConflict p.symbols made.terms lits (numbers support) × SameSet clause lits
MakesClause p made (Line.Cardinality s k ts) clause = (length ts ≡ k + 1) × (are_of_sort p.symbols made.terms (Ty.Of s) (numbers ts) ≡ true) × SameSet clause (more_than s.0 k ∷ some_equal (numbers ts))
MakesClause p made (Line.Sum n ks) clause = (length ks ≡ p.symbols.sorts) × (n < total_above ks) × SameSet clause (sum_clause 0 ks n)
MakesClause p made (Line.OrderCard s k) clause = (s.0 < p.symbols.sorts) × (k + 1 < 2 ^ 64) × SameSet clause (more_than s.0 k ∷ at_most s.0 (k + 1) ∷ [])
MakesClause p made (Line.OrderBound n) clause = (n + 1 < 2 ^ 64) × SameSet clause (above n ∷ within (n + 1) ∷ [])
MakesClause p made (Line.OrderZero s) clause = (s.0 < p.symbols.sorts) × SameSet clause (more_than s.0 0 ∷ [])
MakesClause p made (Line.Resolution first steps) clause = (steps ≢ []) × ((start : Clause) × (slice_get made.clauses first ≡ Some start) × Chain made.clauses start steps clause)

abbrev pub with_new_term : Made → Term → Made
with_new_term made t = record { terms = made.terms ++ t ∷ []; clauses = made.clauses }

abbrev pub with_clause : Made → Clause → Made
with_clause made clause = record { terms = made.terms; clauses = made.clauses ++ clause ∷ [] }

-- an application of a symbol to earlier terms that isn't there yet
abbrev pub IsNewTerm : Sig → List Term → Term → Type 0
IsNewTerm sig terms t = (is_term sig terms t ≡ true) × (list_any (is_same t) terms ≡ false)

-- the line is good after what was made: it makes one more term, or one more clause
abbrev pub Makes : Problem → Made → Line → Made → Type 0
Makes p made (Line.Term f args) after = IsNewTerm p.symbols made.terms (application f args) × (after ≡ with_new_term made (application f args))
Makes p made line after = (clause : Clause) × MakesClause p made line clause × (after ≡ with_clause made clause)

-- the lines are good one after the other, and this is what is made in the end
abbrev pub AreGoodLines : Problem → Made → List Line → Made → Type 0
AreGoodLines p made [] end' = end' ≡ made
AreGoodLines p made (line ∷ lines) end' = (after : Made) × Makes p made line after × AreGoodLines p after lines end'
