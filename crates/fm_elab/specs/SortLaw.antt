-- The law that what stands in an assertion stack is closed and well sorted over what is declared there, however many of its
-- levels are closed later.
use Rattle.std.specs.Prelude.{◌≡◌, ℕ, ◌<◌, ◌≤◌, Bool, true, false, List, [], ◌∷◌, length, map, slice_get, take, Some, Ok}
use Rattle.std.specs.List.{All, AllByRecursion, list_all}
use Rattle.fm_base.specs.Interpretations.{is_sort_of, names_its_sorts}
use Rattle.fm_base.specs.Truth.{is_closed}
use Rattle.fm_base.specs.declared.formula.Formula.{Formula}
use Rattle.fm_base.specs.declared.signature.Rank.{Rank}
use Rattle.fm_base.specs.declared.signature.Sig.{Sig}
use Rattle.fm_base.specs.declared.signature.Ty.{Ty}
use Rattle.fm_script.specs.Shown.{Shown}
use Rattle.fm_levels.specs.Levels.{joined}
use Rattle.fm_apply.specs.Applied.{Function}
use Rattle.fm_elab.specs.Sorted.{IsSortedFunction, takes_no_truth}
use Rattle.fm_elab.specs.Stacks.{State, assertions_in_force, signature}
use Rattle.fm_elab.specs.Steps.{step_of}

-- a signature that has the sorts and functions of another
pub record Includes (big small : Sig) : Type 0 where
  pub sorts : small.sorts ≤ big.sorts
  pub ranks : (f : ℕ) (rank : Rank) → slice_get small.ranks f ≡ Some rank → slice_get big.ranks f ≡ Some rank

-- what a front of the levels has, in order
pub record Front : Type 0 where
  pub declared_sorts : List (List ℕ × Ty)
  pub sorts : List (List ℕ × Ty)
  pub symbols : List (List ℕ × Rank)
  pub functions : List Function
  pub assertions : List Formula

abbrev pub front : ℕ → State → Front
front k s =
    record {
      declared_sorts = joined (take k s.declared_sorts);
      sorts = joined (take k s.sorts);
      symbols = joined (take k s.symbols);
      functions = joined (take k s.functions);
      assertions = joined (take k s.assertions);
    }

abbrev pub ranks_in : List (List ℕ × Rank) → List Rank
ranks_in symbols = map (λ (e : List ℕ × Rank). e.1) symbols

abbrev pub front_signature : Front → Sig
front_signature f = record { sorts = length f.declared_sorts; ranks = ranks_in f.symbols }

abbrev pub take_no_truths : List Rank → Bool
take_no_truths ranks = list_all (λ (r : Rank). takes_no_truth r.args) ranks

-- the sorts in force stand for declared ones
abbrev pub AreSorts : ℕ → List (List ℕ × Ty) → Type 0
AreSorts count sorts = AllByRecursion (λ (e : List ℕ × Ty). is_sort_of count e.1 ≡ true) sorts

-- functions and assertions are well sorted over the signature and over every larger one
abbrev pub IsLastingFunction : Sig → Function → Type 0
IsLastingFunction sig f = (big : Sig) → Includes big sig → IsSortedFunction big f

abbrev pub IsLastingFormula : Sig → Formula → Type 0
IsLastingFormula sig f = (big : Sig) → Includes big sig → is_closed f big ≡ true

-- all that stands there is well sorted over what is declared there
pub record IsSortedFront (f : Front) : Type 0 where
  pub ranks : names_its_sorts (front_signature f) ≡ true
  pub truths : take_no_truths (ranks_in f.symbols) ≡ true
  pub sorts : AreSorts (length f.declared_sorts) f.sorts
  pub functions : AllByRecursion (IsLastingFunction (front_signature f)) f.functions
  pub assertions : AllByRecursion (IsLastingFormula (front_signature f)) f.assertions

-- nothing stands above the first level
abbrev pub IsLow : {A : Type 0} → List (List A) → Type 0
IsLow [] = Unit {0}
IsLow {A} (l ∷ ls) = AllByRecursion (λ (k : List A). k ≡ []) ls

-- There are as many levels of each kind; global declarations are all in the first; and each front of the levels is well sorted.
pub record IsSortedState (s : State) : Type 0 where
  pub some : 0 < length s.assertions
  pub declared_sorts : length s.declared_sorts ≡ length s.assertions
  pub sorts : length s.sorts ≡ length s.assertions
  pub symbols : length s.symbols ≡ length s.assertions
  pub functions : length s.functions ≡ length s.assertions
  pub low_sorts : s.global ≡ true → IsLow s.declared_sorts
  pub low_symbols : s.global ≡ true → IsLow s.symbols
  pub begun : s.begun ≡ false → length s.assertions ≡ 1
  pub fronts : (k : ℕ) → IsSortedFront (front k s)

-- each command leaves an assertion stack well sorted
abbrev pub StepsStaySorted : Type 0
StepsStaySorted = (text : List ℕ) (s t : State) (command : Shown) → IsSortedState s → step_of text s command ≡ Ok t → IsSortedState t

-- what is in force at a command: closed assertions over the signature, whose ranks name its sorts and take no truth values
pub record IsSortedProblem (s : State) : Type 0 where
  pub closed : All (λ f. is_closed f (signature s) ≡ true) (assertions_in_force s)
  pub ranks : names_its_sorts (signature s) ≡ true
  pub truths : take_no_truths (signature s).ranks ≡ true

abbrev pub ProblemsAreSorted : Type 0
ProblemsAreSorted = (s : State) → IsSortedState s → IsSortedProblem s
