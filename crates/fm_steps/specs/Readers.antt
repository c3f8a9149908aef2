-- What a reader has read goes back with the trail.
use Rattle.std.specs.Prelude.{◌≡◌, ◌<◌, ◌≤◌, ℕ, take}
use Rattle.fm_base.specs.declared.ids.Reader.{Reader}
use Rattle.fm_trail.specs.Trail.{level_of, levels_of, up_to}
use Rattle.fm_steps.specs.Facts.{TrailIsExplained}
use Rattle.fm_steps.specs.State.{State, back_to, read_by}

-- it is then the entries of those levels among what was read before
abbrev pub ReadersGoBack : Type 0
ReadersGoBack = (s : State) (r : Reader) (level : ℕ) → TrailIsExplained s → read_by r (back_to level s) ≡ up_to level (read_by r s)

-- a level that is open among what was read closes, with all above it
abbrev pub ReadersCloseLevels : Type 0
ReadersCloseLevels =
    (s : State) (r : Reader) (level : ℕ) → TrailIsExplained s → level < level_of (read_by r s)
    → levels_of (up_to level (read_by r s)) ≡ take level (levels_of (read_by r s))

-- and where it isn't, nothing changes
abbrev pub ReadersStay : Type 0
ReadersStay = (s : State) (r : Reader) (level : ℕ) → TrailIsExplained s → level_of (read_by r s) ≤ level → up_to level (read_by r s) ≡ read_by r s
