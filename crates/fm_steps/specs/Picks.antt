-- The tests of the sorts: where a sort has more classes than its least true bound, k + 1 classes of the first of its grown
-- regions that has more than k.
use Rattle.std.specs.Prelude.{◌≡◌, ℕ, ◌+◌, ◌-◌, ◌==◌, nat_lt, Bool, true, false, ◌&&◌, List, [], ◌∷◌, ◌++◌, length, map, Option, Some, None}
use Rattle.std.specs.List.{filter, flat_map, list_all, list_any}
use Rattle.std.specs.Str.{bytes_eq}
use Rattle.fm_base.specs.declared.ids.Reader.{Reader}
use Rattle.fm_bank.specs.declared.literal.Literal.{Literal}
use Rattle.fm_bank.specs.Instances.{equality}
use Rattle.fm_bank.specs.Regions.{first_large, grown_regions}
use Rattle.fm_bank.specs.Tests.{Tests}
use Rattle.fm_steps.specs.Content.{AreTestsBy, classes_of, ground_literals_of}
use Rattle.fm_steps.specs.Sizes.{card, least_true, lit, sort}
use Rattle.fm_steps.specs.State.{Pick, State, know_all, read_by}

-- what the two readers of equalities know in a state
pub record Known : Type 0 where
  pub congruence : Tests
  pub regions : Tests

-- the equality and predicate literals that a reader has read
abbrev pub read_literals : Reader → State → List Literal
read_literals r s = ground_literals_of s.held.atoms (read_by r s)

pub record IsKnown (s : State) (k : Known) : Type 0 where
  pub congruence : AreTestsBy s.held (read_literals Reader.Congruence s) k.congruence
  pub regions : AreTestsBy s.held (read_literals Reader.Regions s) k.regions

-- each is apart from those behind it
abbrev pub is_clique : (ℕ → ℕ → Bool) → List ℕ → Bool
is_clique apart [] = true
is_clique apart (a ∷ more) = list_all (λ b. apart a b) more && is_clique apart more

-- some of a list, in its order: the list without those of its elements that aren't meant
abbrev pub is_sublist : List ℕ → List ℕ → Bool
is_sublist xs ys = bytes_eq (filter (λ y. list_any (λ x. x == y) xs) ys) xs

-- the pair of a test: none for a clique, else two of its classes that aren't apart, the older first
abbrev pub IsPair : Tests → List ℕ → Option (ℕ × ℕ) → Type 0
IsPair t terms None = is_clique t.apart terms ≡ true
IsPair t terms (Some p) = (is_sublist (p.0 ∷ (p.1 ∷ [])) terms ≡ true) × (t.apart p.0 p.1 ≡ false)

-- k + 1 classes of the first of the grown regions at k that has more than k; which ones is free, and so is the pair
pub record IsTest (t : Tests) (classes : List ℕ) (k : ℕ) (pick : Pick) : Type 0 where
  pub count : length pick.terms ≡ k + 1
  pub among : is_sublist pick.terms (first_large k (grown_regions t.apart classes k)) ≡ true
  pub pair : IsPair t pick.terms pick.pair

-- the pick of a sort, by its least true bound
abbrev pub IsPickAt : Tests → List ℕ → Option ℕ → Option Pick → Type 0
IsPickAt t classes None pick = pick ≡ None
IsPickAt t classes (Some k) None = nat_lt k (length classes) ≡ false
IsPickAt t classes (Some k) (Some pick) = (nat_lt k (length classes) ≡ true) × IsTest t classes k pick

abbrev pub IsPick : State → Tests → ℕ → Option Pick → Type 0
IsPick s t u pick = IsPickAt t (classes_of s.held t (sort u)) (least_true s u) pick

-- one pick for each sort, from number u on
abbrev pub ArePicks : State → Tests → ℕ → List (Option Pick) → Type 0
ArePicks s t u [] = u ≡ s.held.sig.sorts
ArePicks s t u (p ∷ ps) = IsPick s t u p × ArePicks s t (u + 1) ps

-- the equalities of the pairs of places of a list: first with second, first with third, .. second with third
abbrev pub pair_literals : List ℕ → List Literal
pair_literals [] = []
pair_literals (a ∷ more) = map (λ b. lit true (equality a b)) more ++ pair_literals more

-- the lemma of a clique: some two are equal, or the sort has more elements
abbrev pub clique_lemma : ℕ → List ℕ → List Literal
clique_lemma u terms = lit false (card u (length terms - 1)) ∷ pair_literals terms

abbrev pub clique_literals : Option (ℕ × ℕ) → List ℕ → List Literal
clique_literals None terms = pair_literals terms
clique_literals (Some p) terms = []

-- the equalities of a pick that is a clique
abbrev pub pick_literals : Option Pick → List Literal
pick_literals None = []
pick_literals (Some p) = clique_literals p.pair p.terms

-- What each event leaves: the picks are chosen anew, and the atoms of the cliques become known, sort by sort.
pub record Settles (mid t : State) : Type 0 where
  pub known : Known
  pub is_known : IsKnown mid known
  pub picks : List (Option Pick)
  pub are_picks : ArePicks mid known.regions 0 picks
  pub after : t ≡ record (know_all (flat_map pick_literals picks) mid) { picks = picks }
