-- The law that names are distinct within their kind, however many levels are closed later.
use Rattle.std.specs.Prelude.{◌≡◌, ℕ, ◌<◌, false, List, length, map, Ok}
use Rattle.std.specs.List.{AllByRecursion}
use Rattle.std.specs.Str.{bytes_eq}
use Rattle.fm_base.specs.declared.signature.Rank.{Rank}
use Rattle.fm_base.specs.declared.signature.Ty.{Ty}
use Rattle.fm_script.specs.Shown.{Shown}
use Rattle.fm_levels.specs.Tables.{AreDistinct}
use Rattle.fm_apply.specs.Applied.{Function}
use Rattle.fm_elab.specs.SortLaw.{Front, front}
use Rattle.fm_elab.specs.Stacks.{State, sort_names, symbol_names}
use Rattle.fm_elab.specs.Steps.{step_of}

abbrev pub sorts_named : List (List ℕ × Ty) → List (List ℕ)
sorts_named es = map (λ (e : List ℕ × Ty). e.0) es

abbrev pub symbols_named : List (List ℕ × Rank) → List (List ℕ)
symbols_named es = map (λ (e : List ℕ × Rank). e.0) es

abbrev pub functions_named : List Function → List (List ℕ)
functions_named fs = map (λ (f : Function). f.name) fs

-- no name of the list is this one
abbrev pub IsNew : List ℕ → List (List ℕ) → Type 0
IsNew name names = AllByRecursion (λ (n : List ℕ). bytes_eq n name ≡ false) names

-- names are distinct within their kind, and a name that isn't in force isn't declared
pub record AreNamesDistinct (f : Front) : Type 0 where
  pub sorts : AreDistinct (sorts_named f.sorts)
  pub functions : AreDistinct (functions_named f.functions)
  pub declared_sorts : AreDistinct (sorts_named f.declared_sorts)
  pub symbols : AreDistinct (symbols_named f.symbols)
  pub new_sorts : (name : List ℕ) → IsNew name (sorts_named f.sorts) → IsNew name (sorts_named f.declared_sorts)
  pub new_symbols : (name : List ℕ) → IsNew name (functions_named f.functions) → IsNew name (symbols_named f.symbols)

-- so in each front of the levels, of which there are as many of each kind
pub record IsNamedState (s : State) : Type 0 where
  pub some : 0 < length s.assertions
  pub declared_sorts : length s.declared_sorts ≡ length s.assertions
  pub sorts : length s.sorts ≡ length s.assertions
  pub symbols : length s.symbols ≡ length s.assertions
  pub functions : length s.functions ≡ length s.assertions
  pub fronts : (k : ℕ) → AreNamesDistinct (front k s)

abbrev pub StepsKeepNames : Type 0
StepsKeepNames = (text : List ℕ) (s t : State) (command : Shown) → IsNamedState s → step_of text s command ≡ Ok t → IsNamedState t

-- what is in force at a command has distinct names
abbrev pub ProblemsAreNamed : Type 0
ProblemsAreNamed = (s : State) → IsNamedState s → AreDistinct (sort_names s) × AreDistinct (symbol_names s)
