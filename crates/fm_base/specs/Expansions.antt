-- Expansions of an interpretation: the same sizes, the same values of the symbols that are there, and further symbols.
use Rattle.std.specs.Prelude.{◌≡◌, ℕ, ◌+◌, ◌<◌, true, List, [], ◌∷◌}
use Rattle.fm_base.specs.Interpretations.{Reading, is_tuple, values_of}
use Rattle.fm_base.specs.declared.signature.Rank.{Rank}

-- what each symbol gives each tuple
abbrev pub Symbols : Type 0
Symbols = ℕ → List ℕ → ℕ

-- the reading of these sizes and symbols
abbrev pub with_symbols : (ℕ → ℕ) → Symbols → Reading
with_symbols size at = record { size = size; at = at }

-- new has the values of old for the symbols below next
abbrev pub Agree : ℕ → Symbols → Symbols → Type 0
Agree next old new = (f : ℕ) (xs : List ℕ) → f < next → new f xs ≡ old f xs

-- the symbols from next on give each tuple of their arguments' values a value of their result
abbrev pub RanksFit : Reading → ℕ → List Rank → Type 0
RanksFit m next [] = Unit {0}
RanksFit m next (r ∷ rs) = ((xs : List ℕ) → is_tuple m r.args xs ≡ true → m.at next xs < values_of m r.result) × RanksFit m (next + 1) rs

-- an expansion by symbols of these ranks, which are numbered from next on
pub record Expansion (size : ℕ → ℕ) (old : Symbols) (next : ℕ) (ranks : List Rank) : Type 0 where
  pub at : Symbols
  pub agrees : Agree next old at
  pub fits : RanksFit (with_symbols size at) next ranks
