-- The test of a sort.
use Rattle.std.specs.Prelude.{◌≡◌, ◌<◌, ◌≤◌, ◌+◌, ℕ, Bool, true, List, length, Option, Some, None}
use Rattle.fm_bank.specs.Regions.{grown_regions}
use Rattle.fm_bank.specs.Terms.{numbers}
use Rattle.fm_base.specs.declared.ids.SortId.{SortId}
use Rattle.fm_base.specs.declared.ids.TermId.{TermId}
use Rattle.fm_cong.specs.Held.{Held as Graph}
use Rattle.fm_region.specs.Answers.{IsSplit, are_apart, test_of}
use Rattle.fm_region.specs.Held.{ByGraph}
use Rattle.fm_region.specs.declared.picking.Pick.{Pick}

-- two classes of a test that aren't apart, or else they are pairwise apart
abbrev pub IsPair : (ℕ → ℕ → Bool) → List ℕ → Option (TermId × TermId) → Type 0
IsPair apart terms None = are_apart apart terms ≡ true
IsPair apart terms (Some p) = IsSplit apart terms p.0.0 p.1.0

-- the first k + 1 classes of the first large region
pub record IsPick (apart : ℕ → ℕ → Bool) (classes : List ℕ) (k : ℕ) (pick : Pick) : Type 0 where
  pub more : k < length classes
  pub terms : numbers pick.terms.items ≡ test_of k (grown_regions apart classes k)
  pub count : length pick.terms.items ≡ k + 1
  pub pair : IsPair apart (numbers pick.terms.items) pick.pair

-- where there are more than k classes
abbrev pub IsPickAt : (ℕ → ℕ → Bool) → List ℕ → ℕ → Option Pick → Type 0
IsPickAt apart classes k None = length classes ≤ k
IsPickAt apart classes k (Some pick) = IsPick apart classes k pick

-- of a sort in a graph
abbrev pub IsPickOf : Graph → SortId → ℕ → Option Pick → Type 0
IsPickOf g sort k pick = ByGraph g sort (λ apart classes. IsPickAt apart classes k pick)
