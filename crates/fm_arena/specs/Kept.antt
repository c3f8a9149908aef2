-- What is kept with the terms of an arena: the type, and the size and depth as a tree.
use Rattle.std.specs.Prelude.{◌≡◌, ℕ, ◌+◌, max, ◌&&◌, nat_le, nat_lt, Bool, true, List, [], ◌∷◌, ◌++◌, map, slice_get, Option, Some, None, Result, IfOk, IfSome, is_some}
use Rattle.fm_base.specs.declared.ids.Memory.{Memory}
use Rattle.fm_base.specs.declared.signature.Ty.{Ty}
use Rattle.fm_base.specs.Truth.{is_bool}
use Rattle.fm_arena.specs.Trees.{is_truth}
use Rattle.fm_arena.specs.Measures.{tree_measure, one, pair_measure, total, deepest, is_fit}
use Rattle.fm_arena.specs.Meanings.{Making, Names, Term, measure_of, term_of, terms_of}
use Rattle.fm_arena.specs.Weights.{Weights, read_as, weighed_of, Follows, AreWeighedAfter}
use Rattle.fm_arena.specs.declared.node.Entry.{Entry}
use Rattle.fm_arena.specs.declared.sizes.Measure.{Measure}

abbrev pub entry_type : Option Entry → Ty
entry_type None = Ty.Bool
entry_type (Some e) = e.ty

abbrev pub kept_in : Option Entry → Measure
kept_in None = one
kept_in (Some e) = e.measure

abbrev pub kept_at : List Entry → ℕ → Measure
kept_at es i = kept_in (slice_get es i)

-- the parts of a `distinct` that a term makes with later ones
abbrev pub pairs_with : List Entry → Measure → List ℕ → List Measure
pairs_with es m is = map (pair_measure m) (map (kept_at es) is)

-- more parts beside what there is, of which one node over all is within the limits
abbrev pub are_fit_beside : Measure → List Measure → Bool
are_fit_beside m ms = nat_le (m.size + total ms) 1000000 && nat_lt (max m.depth (deepest ms)) 400

-- names that count as one node each
abbrev pub ArePlain : Names → Type 0
ArePlain names = (place d : ℕ) → tree_measure (names place d) ≡ one

-- the kind of a term is that of its type, and its measure is as it is kept, within the limits
pub record IsMeasured (t : Term) (e : Entry) : Type 0 where
  pub same : t.ty ≡ e.ty
  pub kind : (names : Names) (d : ℕ) → is_truth (t.meaning names d) ≡ is_bool t.ty
  pub measure : (names : Names) (d : ℕ) → ArePlain names → tree_measure (t.meaning names d) ≡ e.measure
  pub fit : is_fit e.measure ≡ true

abbrev pub AreMeasured : List Term → List Entry → Type 0
AreMeasured [] [] = Unit {0}
AreMeasured [] (e ∷ es) = ⊥
AreMeasured (t ∷ ts) [] = ⊥
AreMeasured (t ∷ ts) (e ∷ es) = IsMeasured t e × AreMeasured ts es

-- the arguments of a use, by what is kept of them
abbrev pub kept_argument : List Entry → Option ℕ → Bool → Measure
kept_argument es None truth = one
kept_argument es (Some i) truth = read_as (is_bool (entry_type (slice_get es i))) truth (kept_at es i)

abbrev pub kept_arguments : List Entry → List ℕ → Weights
kept_arguments es is place truth = kept_argument es (slice_get is place) truth

-- what is kept in an arena is right
abbrev pub AreKept : List Entry → Type 0
AreKept es = AreMeasured (terms_of es) es × AreWeighedAfter [] [] es

-- an entry may stand behind others: what is kept with it is right
abbrev pub MayFollow : List Entry → Entry → Type 0
MayFollow es e = IsMeasured (term_of (terms_of es) e) e × Follows (terms_of es) (weighed_of es) e

abbrev pub terms_with : List Entry → Entry → List Term
terms_with es e = terms_of es ++ term_of (terms_of es) e ∷ []

-- What a call that makes a term leaves.

-- the terms are those of before and one more
abbrev pub IsAdded : List Entry → List Entry → Making → Type 0
IsAdded old new made = terms_of new ≡ terms_of old ++ made (terms_of old) ∷ []

abbrev pub Adds : List Entry → List Entry → Making → Result (Option ℕ) Memory → Type 0
Adds old new made result = IfOk result (λ o. IfSome o (λ n. IsAdded old new made))

-- there is a number exactly where what is made is within the limits
abbrev pub IsSomeIfFit : List Entry → Making → Result (Option ℕ) Memory → Type 0
IsSomeIfFit old made result = IfOk result (λ o. is_some o ≡ is_fit (measure_of (made (terms_of old)).meaning))
