-- What regions are made from, and that they are made from it.
use Rattle.std.specs.Prelude.{◌≡◌, ◌<◌, ◌≤◌, ℕ, Bool, List, [], length, Option, Some}
use Rattle.std.specs.List.{All}
use Rattle.fm_base.specs.declared.ids.SortId.{SortId}
use Rattle.fm_base.specs.declared.ids.TermId.{TermId}
use Rattle.fm_bank.specs.Regions.{grown_regions, regions_at}
use Rattle.fm_bank.specs.Terms.{numbers}
use Rattle.fm_cong.specs.Held.{Held as Graph}
use Rattle.fm_cong.specs.Types.{AreOldest}
use Rattle.fm_region.specs.Answers.{IsStrong}
use Rattle.fm_region.specs.Levels.{AreOpened, last_of}
use Rattle.fm_region.specs.Rows.{ArePlaced, IsPairBelow, between, number_at}
use Rattle.fm_region.specs.declared.source.Source.{Source}
use Rattle.fm_region.specs.declared.strong.Strong.{Strong}

-- the number, the classes, and the pairs of places
abbrev pub Parts : Type 0
Parts = ℕ × (List TermId × List (ℕ × ℕ))

abbrev pub parts : Source → Parts
parts s = (s.k, (s.terms.items, s.pairs.items))

-- a test says of the terms at two places what the pairs say of the places
abbrev pub Agrees : (ℕ → ℕ → Bool) → List ℕ → List (ℕ × ℕ) → Type 0
Agrees apart terms pairs = (c d : ℕ) → c < length terms → d < length terms → apart (number_at terms c) (number_at terms d) ≡ between pairs c d

-- by each such test
abbrev pub ByPairs : Parts → ((ℕ → ℕ → Bool) → List ℕ → Type 0) → Type 0
ByPairs p P = (apart : ℕ → ℕ → Bool) → Agrees apart (numbers p.1.0) p.1.1 → P apart (numbers p.1.0)

-- the regions are those at the number
abbrev pub AreMadeFrom : Parts → List (List ℕ) → Type 0
AreMadeFrom p regions = ByPairs p (λ apart classes. regions ≡ regions_at apart classes p.0)

-- the regions are the grown ones, and the answer about the size is right
pub record AreGrownFrom (p : Parts) (regions : List (List ℕ)) (answer : Strong) : Type 0 where
  pub grown : ByPairs p (λ apart classes. regions ≡ grown_regions apart classes p.0)
  pub told : ByPairs p (λ apart classes. IsStrong apart classes p.0 (grown_regions apart classes p.0) answer)

-- the classes of a sort in a graph, and which are apart; where there are at most k, no pairs
pub record IsSourceOf (g : Graph) (sort : SortId) (k : ℕ) (s : Source) : Type 0 where
  pub number : s.k ≡ k
  pub oldest : AreOldest g sort s.terms.items
  pub below : All (IsPairBelow (length s.terms.items)) s.pairs.items
  pub placed : k < length s.terms.items → ArePlaced g (numbers s.terms.items) s.pairs.items
  pub none : length s.terms.items ≤ k → s.pairs.items ≡ []

-- the levels are in order, and where it is known what the last regions were made from, they were
pub record IsHeld (made : List (List (List ℕ))) (opened : List ℕ) (source : Option Source) : Type 0 where
  pub levels : AreOpened (length made) opened
  pub last : (s : Source) → source ≡ Some s → AreMadeFrom (parts s) (last_of made)
