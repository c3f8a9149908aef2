-- An e-graph between two calls.
use Rattle.std.specs.Prelude.{◌≡◌, ℕ, ◌≤◌, ◌<◌, Bool, List, [], length}
use Rattle.std.specs.List.{All, slice_index_or}
use Rattle.fm_bank.specs.Closure.{Shape}
use Rattle.fm_cells.specs.Forest.{trimmed}
use Rattle.fm_cong.specs.Facts.{AreAtomsBelow}
use Rattle.fm_cong.specs.Graphs.{cells_of}
use Rattle.fm_cong.specs.Growth.{AreFlags}
use Rattle.fm_cong.specs.Held.{Held, JoinsRegistered}
use Rattle.fm_cong.specs.Levels.{IsBefore, IsKept, IsSteady, levels_of}
use Rattle.fm_cong.specs.States.{count_of}
use Rattle.fm_cong.specs.Tables.{AreUses}
use Rattle.fm_cong.specs.Tracked.{HasPairsOf, IsTracked}
use Rattle.fm_cong.specs.Types.{AreSorts}
use Rattle.fm_cong.specs.declared.fact.Fact.{Fact}
use Rattle.fm_cong.specs.declared.mark.Mark.{Mark}
use Rattle.fm_cong.specs.declared.state.State.{State}
use Rattle.fm_cong.specs.declared.egraph.Egraph.TheInside.{Inside}

-- each mark is kept, and no later one is before an earlier one
pub record AreMarks (shapes : List Shape) (s : State) (marks : List Mark) : Type 0 where
  pub kept : All (IsKept shapes s) marks
  pub low : All (λ (m : Mark). m.entered ≤ length shapes) marks
  pub ordered : (i j : ℕ) (d : Mark) → i ≤ j → j < length marks → IsBefore (slice_index_or marks i d) (slice_index_or marks j d)

pub record IsSound (shapes : List Shape) (places : List (List ℕ)) (set : List Bool) (s : State) (open_ : List Mark) : Type 0 where
  pub steady : IsSteady shapes (cells_of s)
  pub quiet : s.waiting.items ≡ []
  pub entered : s.entered ≤ length shapes
  pub uses : AreUses shapes places
  pub flags : AreFlags shapes set
  pub objects : 2 ≤ count_of s
  pub atoms : AreAtomsBelow (count_of s) s.facts.items
  pub marks : AreMarks shapes s open_

abbrev pub IsFaithful : Inside → Type 0
IsFaithful g = IsSound g.members.items g.uses.items g.flags.items g.state g.marks.items

-- the lists beside the state: the sides of the false equalities with their classes, and the terms of each sort
pub record IsWhole (g : Inside) : Type 0 where
  pub sound : IsFaithful g
  pub unequal : HasPairsOf g.state.facts.items g.apart
  pub tracked : IsTracked g.state g.apart g.marks.items g.cuts.items
  pub read : All (λ (f : Fact). JoinsRegistered g.members.items f.atom) g.state.facts.items
  pub sorts : AreSorts g.members.items g.types.items g.sorts

abbrev pub held_in : Inside → Held
held_in g = record { shapes = g.members.items; types = g.types.items; facts = g.state.facts.items; levels = levels_of g.state.facts.items g.marks.items; entered = g.state.entered; links = trimmed g.state.links.cells.items }
