-- What is answered about the regions.
use Rattle.std.specs.Prelude.{◌≡◌, ◌<◌, ◌≤◌, ◌+◌, ℕ, Bool, true, false, not, ◌&&◌, List, [], ◌∷◌, length, map, take, Option, Some, None}
use Rattle.std.specs.List.{find, list_all}
use Rattle.fm_base.specs.declared.ids.SortId.{SortId}
use Rattle.fm_bank.specs.Terms.{numbers}
use Rattle.fm_cong.specs.Held.{Held as Graph}
use Rattle.fm_region.specs.Held.{ByGraph}
use Rattle.fm_bank.specs.Regions.{first_large, grown_regions, is_in}
use Rattle.fm_region.specs.Rows.{number_at}
use Rattle.fm_region.specs.declared.regions.Weak.{Weak}
use Rattle.fm_region.specs.declared.strong.Strong.{Strong}

abbrev pub weak_of : Option ℕ → Weak
weak_of None = Weak.Clear
weak_of (Some i) = Weak.Test i

-- k + 1 classes of the first region of more than k classes
abbrev pub test_of : ℕ → List (List ℕ) → List ℕ
test_of k regions = take (k + 1) (first_large k regions)

-- each class of a list is apart from those behind it
abbrev pub are_apart : (ℕ → ℕ → Bool) → List ℕ → Bool
are_apart apart [] = true
are_apart apart (c ∷ cs) = list_all (λ d. apart c d) cs && are_apart apart cs

-- two classes of a test that aren't apart, the older one first
pub record IsSplit (apart : ℕ → ℕ → Bool) (test : List ℕ) (c d : ℕ) : Type 0 where
  pub first : is_in test c ≡ true
  pub second : is_in test d ≡ true
  pub older : c < d
  pub open_ : apart c d ≡ false

-- all k + 1 classes of a test, which are pairwise apart
pub record IsCliqueTest (apart : ℕ → ℕ → Bool) (k : ℕ) (test clique : List ℕ) : Type 0 where
  pub whole : clique ≡ test
  pub size : length clique ≡ k + 1
  pub apart_all : are_apart apart clique ≡ true

-- the sort fits, or it doesn't and two classes of the test aren't apart, or all are
abbrev pub IsStrong : (ℕ → ℕ → Bool) → List ℕ → ℕ → List (List ℕ) → Strong → Type 0
IsStrong apart classes k regions Strong.Fits = length classes ≤ k
IsStrong apart classes k regions (Strong.Split c d) = (k < length classes) × IsSplit apart (test_of k regions) c.0 d.0
IsStrong apart classes k regions (Strong.Clique terms) = (k < length classes) × IsCliqueTest apart k (test_of k regions) (numbers terms.items)

-- of the grown regions at k
abbrev pub IsStrongOf : Graph → SortId → ℕ → Strong → Type 0
IsStrongOf g sort k answer = ByGraph g sort (λ apart classes. IsStrong apart classes k (grown_regions apart classes k) answer)

-- How it is found, by places: the first two classes of a list, in its order, that aren't apart.
abbrev pub or_pair : ℕ → Option ℕ → Option (ℕ × ℕ) → Option (ℕ × ℕ)
or_pair a (Some b) next = Some (a, b)
or_pair a None next = next

abbrev pub first_pair : (ℕ → ℕ → Bool) → List ℕ → Option (ℕ × ℕ)
first_pair apart [] = None
first_pair apart (c ∷ cs) = or_pair c (find (λ d. not (apart c d)) cs) (first_pair apart cs)

-- its classes as terms, or all of the list; and before that, whether there are at most k terms
abbrev pub IsFound : ℕ → List ℕ → List ℕ → Option (ℕ × ℕ) → Strong → Type 0
IsFound k terms test pair Strong.Fits = length terms ≤ k
IsFound k terms test pair (Strong.Split c d) = (k < length terms) × ((p : ℕ × ℕ) × (pair ≡ Some p) × (c.0 ≡ number_at terms p.0) × (d.0 ≡ number_at terms p.1))
IsFound k terms test pair (Strong.Clique ts) = (k < length terms) × (pair ≡ None) × (numbers ts.items ≡ map (number_at terms) test)

-- of the test that is by the regions
abbrev pub IsFoundIn : (ℕ → ℕ → Bool) → List ℕ → ℕ → List (List ℕ) → Strong → Type 0
IsFoundIn near terms k regions answer = IsFound k terms (test_of k regions) (first_pair near (test_of k regions)) answer
