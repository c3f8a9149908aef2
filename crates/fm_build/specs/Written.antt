-- The table of a symbol, from its entries.
use Rattle.std.specs.Prelude.{◌≡◌, ℕ, ◌<◌, Bool, List, [], ◌∷◌, length, slice_get, Some}
use Rattle.fm_base.specs.declared.interp.Table.{Table}
use Rattle.fm_base.specs.declared.signature.Rank.{Rank}
use Rattle.fm_base.specs.declared.signature.Ty.{Ty}
use Rattle.fm_bank.specs.Interning.{Held}
use Rattle.fm_build.specs.Entries.{AreEntries}

abbrev pub first_value : List (List ℕ × ℕ) → ℕ
first_value [] = 0
first_value (e ∷ es) = e.1

-- a constant's value, else 0 and the entries
abbrev pub written : List Ty → List (List ℕ × ℕ) → Table
written [] es = record { default = first_value es; except = [] }
written (t ∷ ts) es = record { default = 0; except = es }

-- the table of a symbol by the marked terms and the elements
pub record IsWritten (b : Held) (marks : List Bool) (elements : List ℕ) (f : ℕ) (args : List Ty) (table : Table) : Type 0 where
  pub es : List (List ℕ × ℕ)
  pub entries : AreEntries b.terms marks elements f (length b.terms) es
  pub is : table ≡ written args es

pub record AreWritten (b : Held) (marks : List Bool) (elements : List ℕ) (count : ℕ) (tables : List Table) : Type 0 where
  pub many : length tables ≡ count
  pub each : (f : ℕ) (rank : Rank) (table : Table) → f < count → slice_get b.sig.ranks f ≡ Some rank → slice_get tables f ≡ Some table → IsWritten b marks elements f rank.args table
