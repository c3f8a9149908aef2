-- The set of links while it is searched for.
use Rattle.std.specs.Prelude.{◌≡◌, ◌↔◌, ◌⊎◌, ◌++◌, ℕ, Bool, true, List, Option}
use Rattle.fm_bank.specs.Terms.{Term}
use Rattle.fm_cells.specs.Members.{is_on}
use Rattle.fm_cells.specs.declared.edge.Edge.{Edge}
use Rattle.fm_cong.specs.Paths.{IsOnPath}
use Rattle.fm_explain.specs.Meant.{HasArguments, IsOnArguments}

-- what was there stands in front
abbrev pub AreGrown : List ℕ → List ℕ → Type 0
AreGrown old new = (more : List ℕ) × (new ≡ old ++ more)

-- the links that were there, and those on a path
abbrev pub HasPath : (ℕ → Option Edge) → List ℕ → List ℕ → ℕ → ℕ → Type 0
HasPath link old new u v = (e : ℕ) → (is_on new e ≡ true) ↔ ((is_on old e ≡ true) ⊎ IsOnPath link u v e)

-- the links that were there, and those on the paths between the first n arguments, place by place
abbrev pub HasArgumentPaths : (ℕ → Option Edge) → List ℕ → List ℕ → List ℕ → List ℕ → ℕ → Type 0
HasArgumentPaths link old new xs ys n = (e : ℕ) → (is_on new e ≡ true) ↔ ((is_on old e ≡ true) ⊎ IsOnArguments link xs ys n e)

-- each set that has what was there, and the links on the arguments' paths of this node, has what is there now
abbrev pub IsLeast : List Term → (ℕ → Option Edge) → List ℕ → List ℕ → ℕ → Type 0
IsLeast terms link old new node = (S : ℕ → Bool) → HasArguments terms link S node → ((e : ℕ) → is_on old e ≡ true → S e ≡ true) → (e : ℕ) → is_on new e ≡ true → S e ≡ true
