-- What the regions of a sort hold, and that they are those of an e-graph.
use Rattle.std.specs.Prelude.{◌≡◌, ℕ, Bool, List, []}
use Rattle.fm_base.specs.declared.ids.SortId.{SortId}
use Rattle.fm_base.specs.declared.ids.TermId.{TermId}
use Rattle.fm_bank.specs.Regions.{grown_regions, regions_at}
use Rattle.fm_bank.specs.Terms.{numbers}
use Rattle.fm_bank.specs.Tests.{Tests}
use Rattle.fm_cong.specs.Held.{Held as Graph}
pub use Rattle.fm_cong.specs.Tests.{AreTestsOf}
use Rattle.fm_cong.specs.Types.{AreOldest}
use Rattle.fm_region.specs.Levels.{last_of, levels_of}

-- the regions, each a list of the numbers of its classes' oldest terms, and those at each open level
pub record Held : Type 0 where
  pub sort : SortId
  pub regions : List (List ℕ)
  pub levels : List (List (List ℕ))

abbrev pub nothing_followed : SortId → Held
nothing_followed sort = record { sort = sort; regions = []; levels = [] }

-- by the contents that were, and how many there were as each level was opened
abbrev pub held_in : SortId → List (List (List ℕ)) → List ℕ → Held
held_in sort made opened = record { sort = sort; regions = last_of made; levels = levels_of made opened }

-- by the tests of an e-graph and the oldest terms of its classes
abbrev pub ByGraph : Graph → SortId → ((ℕ → ℕ → Bool) → List ℕ → Type 0) → Type 0
ByGraph g sort P = (t : Tests) (terms : List TermId) → AreTestsOf g t → AreOldest g sort terms → P t.apart (numbers terms)

-- the regions at k of the sort's classes
abbrev pub AreRegionsOf : Graph → SortId → ℕ → List (List ℕ) → Type 0
AreRegionsOf g sort k regions = ByGraph g sort (λ apart classes. regions ≡ regions_at apart classes k)

-- the grown ones
abbrev pub AreGrownOf : Graph → SortId → ℕ → List (List ℕ) → Type 0
AreGrownOf g sort k regions = ByGraph g sort (λ apart classes. regions ≡ grown_regions apart classes k)
