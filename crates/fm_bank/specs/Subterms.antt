-- Subterms of some terms: the terms themselves, their arguments, the arguments of those, and so on.
use Rattle.std.specs.Prelude.{◌≡◌, ◌↔◌, ℕ, ◌==◌, Bool, true, if◌then◌else◌, List, [], ◌∷◌, ◌++◌, slice_get, Some}
use Rattle.std.specs.List.{All, Contains, list_any}
use Rattle.fm_bank.specs.Terms.{Term}

-- a set that has the roots and, of each of its terms, the arguments
pub record IsSubtermSet (terms : List Term) (roots : List ℕ) (S : ℕ → Bool) : Type 0 where
  pub has_roots : All (λ n. S n ≡ true) roots
  pub has_args : (n : ℕ) (t : Term) → S n ≡ true → slice_get terms n ≡ Some t → All (λ a. S a ≡ true) t.args

-- what is in every such set
abbrev pub IsSubterm : List Term → List ℕ → ℕ → Type 0
IsSubterm terms roots n = (S : ℕ → Bool) → IsSubtermSet terms roots S → S n ≡ true

-- the list has the subterms of the roots and nothing else
abbrev pub AreSubterms : List Term → List ℕ → List ℕ → Type 0
AreSubterms terms roots over = (n : ℕ) → Contains over n ↔ IsSubterm terms roots n

-- How they are found: each once, behind those that are found already.
abbrev pub is_found : List ℕ → ℕ → Bool
is_found ns n = list_any (λ (m : ℕ). n == m) ns

abbrev pub added : List ℕ → ℕ → List ℕ
added ns n = if is_found ns n then ns else ns ++ n ∷ []

abbrev pub all_added : List ℕ → List ℕ → List ℕ
all_added ns [] = ns
all_added ns (t ∷ ts) = all_added (added ns t) ts
