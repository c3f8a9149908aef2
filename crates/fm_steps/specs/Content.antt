-- What follows from the equality and predicate literals that a reader has read, by ground congruence closure over all
-- registered terms.
use Rattle.std.specs.Prelude.{◌≡◌, ℕ, Bool, true, false, ◌||◌, ◌&&◌, not, List, [], ◌∷◌, length, map, slice_get, Option, Some, None}
use Rattle.std.specs.List.{filter, flat_map, list_all, list_any, range_with_len}
use Rattle.fm_base.specs.declared.ids.SortId.{SortId}
use Rattle.fm_base.specs.declared.signature.Ty.{Ty}
use Rattle.fm_bank.specs.declared.atom.Atom.{Atom}
use Rattle.fm_bank.specs.declared.literal.Literal.{Literal}
use Rattle.fm_bank.specs.Closure.{Shape, facts_of, no, object, shapes_of, yes}
use Rattle.fm_bank.specs.Interning.{Held}
use Rattle.fm_bank.specs.Terms.{is_type, type_of}
use Rattle.fm_bank.specs.Tests.{AreTests, Tests}
use Rattle.fm_trail.specs.declared.entry.Entry.{Entry}

abbrev pub literal_at : Bool → Option Atom → List Literal
literal_at positive None = []
literal_at positive (Some a) = record { positive = positive; atom = a } ∷ []

-- the entries as literals by their atoms
abbrev pub literals_of : List Atom → List Entry → List Literal
literals_of atoms es = flat_map (λ (e : Entry). literal_at e.lit.positive (slice_get atoms e.lit.atom.0)) es

-- an atom that bounds the size of a sort or the sum of all sizes
abbrev pub is_size : Atom → Bool
is_size (Atom.Card s k) = true
is_size (Atom.Bound n) = true
is_size (Atom.Equal a b) = false
is_size (Atom.Pred t) = false

-- the equality and predicate literals of the entries
abbrev pub ground_literals_of : List Atom → List Entry → List Literal
ground_literals_of atoms es = filter (λ (l : Literal). not (is_size l.atom)) (literals_of atoms es)

abbrev pub equal_pair : Bool → Bool → Atom → List (ℕ × ℕ)
equal_pair true true (Atom.Equal a b) = (a.0, b.0) ∷ []
equal_pair false false (Atom.Equal a b) = (a.0, b.0) ∷ []
equal_pair wanted positive a = []

abbrev pub predicate_term : Bool → Bool → Atom → List ℕ
predicate_term true true (Atom.Pred t) = t.0 ∷ []
predicate_term false false (Atom.Pred t) = t.0 ∷ []
predicate_term wanted positive a = []

-- the equalities of one sign, and the predicate terms of one sign
abbrev pub pairs_in : Bool → List Literal → List (ℕ × ℕ)
pairs_in wanted ls = flat_map (λ (l : Literal). equal_pair wanted l.positive l.atom) ls

abbrev pub terms_in : Bool → List Literal → List ℕ
terms_in wanted ls = flat_map (λ (l : Literal). predicate_term wanted l.positive l.atom) ls

abbrev pub facts_in : List Literal → List (ℕ × ℕ)
facts_in ls = facts_of (pairs_in true ls) (terms_in true ls) (terms_in false ls)

abbrev pub all_shapes : Held → List Shape
all_shapes held = shapes_of held.terms (range_with_len 0 (length held.terms))

-- the tests say what follows equal, of objects, and which terms are apart, from these literals
abbrev pub AreTestsBy : Held → List Literal → Tests → Type 0
AreTestsBy held read t = AreTests (all_shapes held) (facts_in read) (pairs_in false read) t

-- two related sides of a false equality, or yes and no
abbrev pub has_clash : List Literal → Tests → Bool
has_clash read t = t.same yes no || list_any (λ (p : ℕ × ℕ). t.same (object p.0) (object p.1)) (pairs_in false read)

-- The literals read decide the atom with this sign: an equality whose sides are related or apart, and a predicate atom whose
-- term is joined with yes or no. They decide nothing else.
abbrev pub decides : Tests → Atom → Bool → Bool
decides t (Atom.Equal a b) true = t.same (object a.0) (object b.0)
decides t (Atom.Equal a b) false = t.apart a.0 b.0
decides t (Atom.Pred p) true = t.same (object p.0) yes
decides t (Atom.Pred p) false = t.same (object p.0) no
decides t (Atom.Card s k) positive = false
decides t (Atom.Bound n) positive = false

abbrev pub opposites : List Literal → List Literal
opposites ls = map (λ (l : Literal). record { positive = not l.positive; atom = l.atom }) ls

-- the opposites of the literals contradict each other, by the closure
abbrev pub ShowsEquality : Held → List Literal → Type 0
ShowsEquality held ls = (t : Tests) → AreTestsBy held (opposites ls) t → has_clash (opposites ls) t ≡ true

-- the terms of a sort that are the oldest of their classes, in order
abbrev pub is_oldest : Tests → ℕ → Bool
is_oldest t n = list_all (λ m. not (t.same (object m) (object n))) (range_with_len 0 n)

abbrev pub is_term_of_sort : Held → ℕ → ℕ → Bool
is_term_of_sort held u n = is_type (type_of held.sig held.terms n) (Ty.Of (record { 0 = u }))

abbrev pub classes_of : Held → Tests → SortId → List ℕ
classes_of held t s = filter (λ n. is_term_of_sort held s.0 n && is_oldest t n) (range_with_len 0 (length held.terms))
