-- The assertion stack (SMT-LIB 2.6): what is in force, level by level. The first level is never closed. The levels are told
-- by kind of entry: the i-th list of each kind is what the i-th level has of that kind.
use Rattle.std.specs.Prelude.{ℕ, ◌-◌, Bool, true, false, ◌||◌, List, [], ◌∷◌, ◌++◌, length, map, take, replicate}
use Rattle.std.specs.List.{list_any}
use Rattle.std.specs.Str.{bytes_eq}
use Rattle.fm_base.specs.declared.formula.Formula.{Formula}
use Rattle.fm_base.specs.declared.signature.Rank.{Rank}
use Rattle.fm_base.specs.declared.signature.Sig.{Sig}
use Rattle.fm_base.specs.declared.signature.Ty.{Ty}
use Rattle.fm_levels.specs.Levels.{in_newest, joined, put}
use Rattle.fm_levels.specs.Tables.{has}
use Rattle.fm_apply.specs.Applied.{Function, Stands, is_core, is_kept_for_solvers}

pub record State : Type 0 where
  -- declared sorts, in order of declaration
  pub declared_sorts : List (List (List ℕ × Ty))
  -- sorts in force, declared and defined, with the types that they stand for
  pub sorts : List (List (List ℕ × Ty))
  -- declared functions, in order of declaration, with their ranks
  pub symbols : List (List (List ℕ × Rank))
  -- functions in force: declared ones, defined ones, and terms that were given a name
  pub functions : List (List Function)
  pub assertions : List (List Formula)
  -- whether declarations and definitions stand in the first level
  pub global : Bool
  -- whether there was a declaration, definition, assertion, `push` or `pop`
  pub begun : Bool

-- one level, and nothing in it
abbrev pub start : State
start =
    record {
      declared_sorts = [] ∷ [];
      sorts = [] ∷ [];
      symbols = [] ∷ [];
      functions = [] ∷ [];
      assertions = [] ∷ [];
      global = false;
      begun = false;
    }

-- how many levels are open, the first one counted
abbrev pub level_count : State → ℕ
level_count s = length s.assertions

-- Names that are taken, by kind.

-- a name of Core, or one kept for solvers, which no script declares
abbrev pub is_barred : List ℕ → Bool
is_barred name = is_core name || is_kept_for_solvers name

abbrev pub is_sort_taken : State → List ℕ → Bool
is_sort_taken s name = is_barred name || has name (joined s.sorts)

abbrev pub is_named : List ℕ → List Function → Bool
is_named name fs = list_any (λ (f : Function). bytes_eq f.name name) fs

abbrev pub is_function_taken : State → List ℕ → Bool
is_function_taken s name = is_barred name || is_named name (joined s.functions)

-- One more entry: in the first level where declarations are global, else in the newest.

-- the type of the next declared sort: sorts are numbered in order of declaration
abbrev pub next_sort : State → Ty
next_sort s = Ty.Of (record { 0 = length (joined s.declared_sorts) })

abbrev pub with_sort : State → List ℕ → Ty → State
with_sort s name ty = record s { sorts = put s.global s.sorts (name, ty); begun = true }

abbrev pub with_declared_sort : State → List ℕ → State
with_declared_sort s name = record (with_sort s name (next_sort s)) { declared_sorts = put s.global s.declared_sorts (name, next_sort s) }

-- a declared function: functions are numbered in order of declaration
abbrev pub next_function : State → List ℕ → List Ty → Ty → Function
next_function s name args result =
    record {
      name = name;
      args = args;
      result = result;
      stands = Stands.Declared (record { 0 = length (joined s.symbols) });
    }

abbrev pub with_symbol : State → List ℕ → List Ty → Ty → State
with_symbol s name args result =
    record s {
      symbols = put s.global s.symbols (name, record { args = args; result = result });
      functions = put s.global s.functions (next_function s name args result);
      begun = true;
    }

-- entries that are put in one level, one after the other
abbrev pub put_all : {A : Type 0} → Bool → List (List A) → List A → List (List A)
put_all first ls [] = ls
put_all first ls (x ∷ xs) = put_all first (put first ls x) xs

-- definitions, and the names that were given in the command
abbrev pub with_definitions : State → List Function → State
with_definitions s fs = record s { functions = put_all s.global s.functions fs; begun = true }

-- an assertion, and the names that were given in it, in the newest level
abbrev pub with_assertion : State → List Function → Formula → State
with_assertion s fs f =
    record s {
      functions = put_all false s.functions fs;
      assertions = in_newest s.assertions f;
      begun = true;
    }

-- Levels opened and closed.

abbrev pub more_levels : {A : Type 0} → ℕ → List (List A) → List (List A)
more_levels n ls = ls ++ replicate n []

abbrev pub fewer_levels : {A : Type 0} → ℕ → List (List A) → List (List A)
fewer_levels n ls = take (length ls - n) ls

abbrev pub opened : State → ℕ → State
opened s n =
    record s {
      declared_sorts = more_levels n s.declared_sorts;
      sorts = more_levels n s.sorts;
      symbols = more_levels n s.symbols;
      functions = more_levels n s.functions;
      assertions = more_levels n s.assertions;
      begun = true;
    }

abbrev pub closed : State → ℕ → State
closed s n =
    record s {
      declared_sorts = fewer_levels n s.declared_sorts;
      sorts = fewer_levels n s.sorts;
      symbols = fewer_levels n s.symbols;
      functions = fewer_levels n s.functions;
      assertions = fewer_levels n s.assertions;
      begun = true;
    }

-- What is in force: the declared sorts and functions and the assertions, each in order.

abbrev pub signature : State → Sig
signature s = record { sorts = length (joined s.declared_sorts); ranks = map (λ (e : List ℕ × Rank). e.1) (joined s.symbols) }

abbrev pub sort_names : State → List (List ℕ)
sort_names s = map (λ (e : List ℕ × Ty). e.0) (joined s.declared_sorts)

abbrev pub symbol_names : State → List (List ℕ)
symbol_names s = map (λ (e : List ℕ × Rank). e.0) (joined s.symbols)

abbrev pub assertions_in_force : State → List Formula
assertions_in_force s = joined s.assertions
