-- What the code keeps of an assertion stack: functions by the numbers of terms in an arena.
use Rattle.std.specs.Prelude.{◌≡◌, ◌<◌, ◌≤◌, ℕ, Bool, List, length, map}
use Rattle.fm_base.specs.declared.formula.Formula.{Formula}
use Rattle.fm_base.specs.declared.signature.Rank.{Rank}
use Rattle.fm_base.specs.declared.signature.Ty.{Ty}
use Rattle.fm_arena.specs.Meanings.{terms_of}
use Rattle.fm_arena.specs.declared.node.Entry.{Entry}
use Rattle.fm_levels.specs.Levels.{joined}
use Rattle.fm_apply.specs.Applied.{Function as TheFunction}
use Rattle.fm_apply.specs.Scoped.{AreInForce, functions_in}
use Rattle.fm_apply.specs.declared.entry.Function.{Function}
use Rattle.fm_elab.specs.Stacks.{State}

pub record Held : Type 0 where
  pub declared_sorts : List (List (List ℕ × Ty))
  pub sorts : List (List (List ℕ × Ty))
  pub symbols : List (List (List ℕ × Rank))
  pub functions : List (List (List ℕ × Function))
  pub entries : List Entry
  pub assertions : List (List Formula)
  pub global : Bool
  pub begun : Bool

-- functions by what their terms mean
abbrev pub functions_at : List Entry → List (List (List ℕ × Function)) → List (List TheFunction)
functions_at es ls = map (functions_in (terms_of es)) ls

abbrev pub state_of : Held → State
state_of h =
    record {
      declared_sorts = h.declared_sorts;
      sorts = h.sorts;
      symbols = h.symbols;
      functions = functions_at h.entries h.functions;
      assertions = h.assertions;
      global = h.global;
      begun = h.begun;
    }

-- Each kind has as many levels, at most 65,537, and the terms of functions are there.
pub record IsWhole (h : Held) : Type 0 where
  pub in_force : AreInForce (terms_of h.entries) (joined h.functions)
  pub some : 0 < length h.assertions
  pub few : length h.assertions ≤ 65537
  pub declared_sorts : length h.declared_sorts ≡ length h.assertions
  pub sorts : length h.sorts ≡ length h.assertions
  pub symbols : length h.symbols ≡ length h.assertions
  pub functions : length h.functions ≡ length h.assertions

abbrev pub held_in : List (List (List ℕ × Ty)) → List (List (List ℕ × Ty)) → List (List (List ℕ × Rank)) → List (List (List ℕ × Function)) → List Entry → List (List Formula) → Bool → Bool → Held
held_in declared_sorts sorts symbols functions entries assertions global begun =
    record {
      declared_sorts = declared_sorts;
      sorts = sorts;
      symbols = symbols;
      functions = functions;
      entries = entries;
      assertions = assertions;
      global = global;
      begun = begun;
    }
