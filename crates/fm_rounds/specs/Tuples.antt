-- Tuples of numbers in lexicographic order, and an interpretation written as tables.
use Rattle.std.specs.Prelude.{ℕ, ◌+◌, ◌==◌, Bool, not, List, [], ◌∷◌, map}
use Rattle.std.specs.List.{filter, flat_map, range_with_len}
use Rattle.std.specs.Cmp.Lexicographic.{slice_cmp}
use Rattle.std.specs.Ordering.{is_lt, nat_cmp}
use Rattle.fm_base.specs.Interpretations.{Reading, values_of}
use Rattle.fm_base.specs.declared.signature.Rank.{Rank}
use Rattle.fm_base.specs.declared.signature.Sig.{Sig}
use Rattle.fm_base.specs.declared.signature.Ty.{Ty}
use Rattle.fm_base.specs.declared.interp.Interp.{Interp}
use Rattle.fm_base.specs.declared.interp.Table.{Table}

-- one tuple is before another, number by number
abbrev pub precedes : List ℕ → List ℕ → Bool
precedes xs ys = is_lt (slice_cmp nat_cmp xs ys)

-- a number below each of these, in lexicographic order of the tuples
abbrev pub tuples : List ℕ → List (List ℕ)
tuples [] = [] ∷ []
tuples (n ∷ ns) = flat_map (λ x. map (λ xs. x ∷ xs) (tuples ns)) (range_with_len 0 n)

-- those whose first number is one of `count`, from `first` on
abbrev pub from_first : List ℕ → ℕ → ℕ → List (List ℕ)
from_first ns first count = flat_map (λ x. map (λ xs. x ∷ xs) (tuples ns)) (range_with_len first count)

-- what a symbol gives each tuple of its arguments' values
abbrev pub graph : Reading → ℕ → List Ty → List (List ℕ × ℕ)
graph m f args = map (λ xs. (xs, m.at f xs)) (tuples (map (values_of m) args))

-- the table of a symbol: its value where it takes no arguments, else 0 and the tuples that have another value
abbrev pub table_of : Reading → ℕ → List Ty → Table
table_of m f [] = record { default = m.at f []; except = [] }
table_of m f (t ∷ ts) = record { default = 0; except = filter (λ (e : List ℕ × ℕ). not (e.1 == 0)) (graph m f (t ∷ ts)) }

-- the tables of the symbols from f on
abbrev pub tables_from : Reading → ℕ → List Rank → List Table
tables_from m f [] = []
tables_from m f (r ∷ rs) = table_of m f r.args ∷ tables_from m (f + 1) rs

abbrev pub tabled : Sig → Reading → Interp
tabled sig m = record { sizes = map m.size (range_with_len 0 sig.sorts); tables = tables_from m 0 sig.ranks }
