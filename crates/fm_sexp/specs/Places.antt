-- Places in a text: lines and columns count from 1, a column counts bytes, and a line ends after a line feed.
use Rattle.std.specs.Prelude.{ℕ, ◌+◌, ◌==◌, cond, List, [], ◌∷◌, take}
use Rattle.fm_base.specs.declared.refusal.Place.{Place}

abbrev pub place_after : Place → ℕ → Place
place_after p b = cond (b == 10) (record { line = p.line + 1; column = 1 }) (record { line = p.line; column = p.column + 1 })

abbrev pub place_from : Place → List ℕ → Place
place_from p [] = p
place_from p (b ∷ bs) = place_from (place_after p b) bs

-- the place of the byte that so many bytes stand before
abbrev pub place_of : List ℕ → ℕ → Place
place_of text at = place_from (record { line = 1; column = 1 }) (take at text)
