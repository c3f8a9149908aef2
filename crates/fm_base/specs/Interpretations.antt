-- Finite many-sorted interpretations (Tarski): a size for each sort and a function for each symbol. The
-- elements of a sort are the numbers below its size, and nothing here ends at 64 bits.
use Rattle.std.specs.Prelude.{◌≡◌, ℕ, ◌<◌, ◌≤◌, ◌==◌, Bool, true, false, ◌&&◌, not, ◌||◌, nat_lt, nat_le, List, [], ◌∷◌, length, slice_get, slice_index, Option, Some, None, cond}
use Rattle.std.specs.List.{list_all}
use Rattle.std.specs.Str.{bytes_eq}
use Rattle.std.specs.Cmp.Lexicographic.{slice_cmp}
use Rattle.std.specs.Ordering.{nat_cmp, is_lt}
use Rattle.fm_base.specs.declared.ids.SortId.{SortId}
use Rattle.fm_base.specs.declared.signature.Ty.{Ty}
use Rattle.fm_base.specs.declared.signature.Rank.{Rank}
use Rattle.fm_base.specs.declared.signature.Sig.{Sig}
use Rattle.fm_base.specs.declared.interp.Table.{Table}
use Rattle.fm_base.specs.declared.interp.Interp.{Interp}

-- `size` of a sort, and `at` a symbol and a tuple of values
pub record Reading : Type 0 where
  pub size : ℕ → ℕ
  pub at : ℕ → List ℕ → ℕ

-- how many values a type has: Bool has 0 for false and 1 for true
abbrev pub values_of : Reading → Ty → ℕ
values_of m Ty.Bool = 2
values_of m (Ty.Of s) = m.size s.0

-- one value of each type
abbrev pub is_tuple : Reading → List Ty → List ℕ → Bool
is_tuple m [] [] = true
is_tuple m [] (x ∷ xs) = false
is_tuple m (t ∷ ts) [] = false
is_tuple m (t ∷ ts) (x ∷ xs) = nat_lt x (values_of m t) && is_tuple m ts xs

-- sizes are at least 1, and each symbol gives each tuple of its arguments' values a value of its result
pub record IsInterpretation (sig : Sig) (m : Reading) : Type 0 where
  pub inhabited : (s : ℕ) → s < sig.sorts → 1 ≤ m.size s
  pub closed : (f : ℕ) (rank : Rank) (xs : List ℕ) → slice_get sig.ranks f ≡ Some rank → is_tuple m rank.args xs ≡ true → m.at f xs < values_of m rank.result

-- what a table gives a tuple
abbrev pub entry_in : ℕ → List (List ℕ × ℕ) → List ℕ → ℕ
entry_in default [] xs = default
entry_in default (e ∷ es) xs = cond (bytes_eq e.0 xs) e.1 (entry_in default es xs)

abbrev pub entry_at : Option Table → List ℕ → ℕ
entry_at None xs = 0
entry_at (Some t) xs = entry_in t.default t.except xs

-- the reading that a list of sizes and tables has
abbrev pub reading_of : Interp → Reading
reading_of i = record { size = λ s. slice_index i.sizes s; at = λ f xs. entry_at (slice_get i.tables f) xs }

-- the ranks of a signature name its sorts
abbrev pub is_sort_of : ℕ → Ty → Bool
is_sort_of sorts Ty.Bool = true
is_sort_of sorts (Ty.Of s) = nat_lt s.0 sorts

abbrev pub names_its_sorts : Sig → Bool
names_its_sorts sig = list_all (λ (r : Rank). list_all (is_sort_of sig.sorts) r.args && is_sort_of sig.sorts r.result) sig.ranks

-- tuples in strictly ascending lexicographic order
abbrev pub ascends_after : List ℕ → List (List ℕ × ℕ) → Bool
ascends_after xs [] = true
ascends_after xs (e ∷ es) = is_lt (slice_cmp nat_cmp xs e.0) && ascends_after e.0 es

abbrev pub ascends : List (List ℕ × ℕ) → Bool
ascends [] = true
ascends (e ∷ es) = ascends_after e.0 es

-- an exception: a tuple of the arguments, and a value of the result that isn't the default
abbrev pub is_exception : Reading → Rank → ℕ → (List ℕ × ℕ) → Bool
is_exception m rank default e = is_tuple m rank.args e.0 && (nat_lt e.1 (values_of m rank.result) && not (e.1 == default))

abbrev pub is_nil : {X : Type 0} → List X → Bool
is_nil [] = true
is_nil (x ∷ xs) = false

-- a table of the rank, in its one form: no arguments, no exceptions
abbrev pub is_table : Reading → Rank → Table → Bool
is_table m rank t = nat_lt t.default (values_of m rank.result) && (list_all (is_exception m rank t.default) t.except && (ascends t.except && (not (is_nil rank.args) || is_nil t.except)))

-- as many tables as ranks, each of its rank
abbrev pub are_tables : Reading → List Rank → List Table → Bool
are_tables m [] [] = true
are_tables m [] (t ∷ ts) = false
are_tables m (r ∷ rs) [] = false
are_tables m (r ∷ rs) (t ∷ ts) = is_table m r t && are_tables m rs ts

-- the tables are an interpretation of the signature, each in its one form
abbrev pub is_fit : Sig → Interp → Bool
is_fit sig i = names_its_sorts sig && (length i.sizes == sig.sorts && (list_all (λ k. nat_le 1 k) i.sizes && are_tables (reading_of i) sig.ranks i.tables))
