-- The tests of the sorts, as a graph gives them.
use Rattle.std.specs.Prelude.{◌≡◌, ℕ, List, min, length, slice_get, Option, Some, None}
use Rattle.fm_base.specs.declared.ids.SortId.{SortId}
use Rattle.fm_cong.specs.Held.{Held as Graph}
use Rattle.fm_region.specs.Picks.{IsPickOf}
use Rattle.fm_region.specs.declared.picking.Pick.{Pick as SortPick}
use Rattle.fm_steps.specs.Sizes.{least_true, sort}
use Rattle.fm_steps.specs.State.{State}

-- the smaller of two numbers, where there are two
abbrev pub both : Option ℕ → Option ℕ → Option ℕ
both None b = b
both (Some a) None = Some a
both (Some a) (Some b) = Some (min a b)

-- the test of a sort at a bound on its size, where there is one
abbrev pub IsPickBy : Graph → SortId → Option ℕ → Option SortPick → Type 0
IsPickBy g s None pick = pick ≡ None
IsPickBy g s (Some k) pick = IsPickOf g s k pick

-- one for each of the first sorts, by its least true bound
pub record ArePicksBelow (s : State) (g : Graph) (n : ℕ) (picks : List (Option SortPick)) : Type 0 where
  pub count : length picks ≡ n
  pub each : (u : ℕ) (pick : Option SortPick) → slice_get picks u ≡ Some pick → IsPickBy g (sort u) (least_true s u) pick

-- for all sorts
abbrev pub ArePicksBy : State → Graph → List (Option SortPick) → Type 0
ArePicksBy s g picks = ArePicksBelow s g s.held.sig.sorts picks
