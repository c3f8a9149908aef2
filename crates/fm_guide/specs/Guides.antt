-- Menus, and the guides that choose from them.
use Rattle.std.specs.Prelude.{◌≡◌, ℕ, ◌+◌, ◌-◌, ◌^◌, ◌<◌, ◌≤◌, ◌⊎◌, List, length, min}
use Rattle.fm_guide.specs.declared.menu.Offer.{Offer}

-- 1 to 64 offers
pub record IsMenu (offers : List Offer) : Type 0 where
  pub some : 0 < length offers
  pub few : length offers ≤ 64

-- the last number of 64 bits
abbrev pub last : ℕ
last = 2 ^ 64 - 1

-- greater than before, or at the last number
abbrev pub GoesOn : ℕ → ℕ → Type 0
GoesOn old new = (old < new) ⊎ (new ≡ last)

-- one more, but never past the last number
abbrev pub next : ℕ → ℕ
next n = min (n + 1) last

-- a guide that gives answers in turn, and how often it was asked
pub record Answers : Type 0 where
  pub answers : List ℕ
  pub asked : ℕ
