-- The lines of a model in a certificate: `z` with the sizes, and for each function a line `d` with its default, behind which
-- its exceptions stand, a line `x` each. What `is_fit` asks of the whole is asked here of each line, one after the other.
use Rattle.std.specs.Prelude.{◌≡◌, ◌↔◌, ℕ, ◌+◌, ◌==◌, Bool, true, ◌&&◌, not, nat_le, nat_lt, cond, List, [], ◌∷◌, length, Option, Some, None}
use Rattle.std.specs.List.{list_all}
use Rattle.std.specs.Cmp.Lexicographic.{slice_cmp}
use Rattle.std.specs.Ordering.{nat_cmp, is_lt}
use Rattle.fm_base.specs.Interpretations.{Reading, is_exception, is_fit, is_nil, names_its_sorts, reading_of, values_of}
use Rattle.fm_base.specs.declared.interp.Interp.{Interp}
use Rattle.fm_base.specs.declared.interp.Table.{Table}
use Rattle.fm_base.specs.declared.signature.Rank.{Rank}
use Rattle.fm_base.specs.declared.signature.Sig.{Sig}

-- a size of at least 1 for each sort, and a line `d` for each function
abbrev pub are_sizes : Sig → Interp → Bool
are_sizes sig i = length i.sizes == sig.sorts && (list_all (λ k. nat_le 1 k) i.sizes && length i.tables == length sig.ranks)

-- the default is a value of the function's result
abbrev pub is_default : Reading → Rank → ℕ → Bool
is_default m rank default = nat_lt default (values_of m rank.result)

-- the tuple comes behind the one of the exception before, if there is one
abbrev pub comes_after : Option (List ℕ) → List ℕ → Bool
comes_after None xs = true
comes_after (Some before) xs = is_lt (slice_cmp nat_cmp before xs)

-- an exception of a function with arguments, in its place
abbrev pub is_exception_after : Reading → Rank → ℕ → Option (List ℕ) → (List ℕ × ℕ) → Bool
is_exception_after m rank default before e = not (is_nil rank.args) && (is_exception m rank default e && comes_after before e.0)

-- the one found first
abbrev pub first_of : Option ℕ → Option ℕ → Option ℕ
first_of None other = other
first_of (Some line) other = Some line

-- the first line `x` that isn't good, where the first one is the line `at`
abbrev pub bad_exception : Reading → Rank → ℕ → ℕ → Option (List ℕ) → List (List ℕ × ℕ) → Option ℕ
bad_exception m rank default at before [] = None
bad_exception m rank default at before (e ∷ es) = cond (is_exception_after m rank default before e) (bad_exception m rank default (at + 1) (Some e.0) es) (Some at)

-- the first line of a table that isn't good, where its line `d` is the line `at`
abbrev pub bad_in_table : Reading → Rank → ℕ → Table → Option ℕ
bad_in_table m rank at t = cond (is_default m rank t.default) (bad_exception m rank t.default (at + 1) None t.except) (Some at)

abbrev pub bad_in_tables : Reading → ℕ → List Rank → List Table → Option ℕ
bad_in_tables m at [] ts = None
bad_in_tables m at (r ∷ rs) [] = None
bad_in_tables m at (r ∷ rs) (t ∷ ts) = first_of (bad_in_table m r at t) (bad_in_tables m (at + 1 + length t.except) rs ts)

-- the first line of a model that isn't good, where its line `z` is the line `at`
abbrev pub bad_in_model : Sig → ℕ → Interp → Option ℕ
bad_in_model sig at i = cond (are_sizes sig i) (bad_in_tables (reading_of i) (at + 1) sig.ranks i.tables) (Some at)

-- No line is bad exactly where the whole is in its one form, over a signature whose ranks name its sorts.
abbrev pub GoodLinesAreFit : Type 0
GoodLinesAreFit = (sig : Sig) (at : ℕ) (i : Interp) → names_its_sorts sig ≡ true → (bad_in_model sig at i ≡ None) ↔ (is_fit sig i ≡ true)

-- how many lines a table has, and tables one after the other
abbrev pub lines_of_table : Table → ℕ
lines_of_table t = 1 + length t.except

abbrev pub lines_of_tables : List Table → ℕ
lines_of_tables [] = 0
lines_of_tables (t ∷ ts) = lines_of_table t + lines_of_tables ts
