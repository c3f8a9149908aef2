-- Which offer is taken: the first one where there is no guide; where the guide always answers one number, the one that it names modulo
-- their count; else any.
use Rattle.std.specs.Prelude.{◌≡◌, ℕ, ◌%◌, Option, Some, None}

-- the place that a number names among so many offers
abbrev pub place_by : ℕ → ℕ → ℕ
place_by answer count = answer % count

-- by what the guide always answers, where there is a guide, and such an answer
abbrev pub IsPlaced : Option (Option ℕ) → ℕ → ℕ → Type 0
IsPlaced None count place = place ≡ 0
IsPlaced (Some None) count place = Unit {0}
IsPlaced (Some (Some n)) count place = place ≡ place_by n count
