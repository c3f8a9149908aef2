-- What is asked of clauses that are searched, put together.
use Rattle.std.proofs.Common.{◌≡◌, ◌↔◌, ℕ, zero, suc, Bool, true, false, List, [], ◌∷◌, Some, refl, subst}
use Rattle.std.specs.Prelude.{slice_get}
use Rattle.std.specs.List.{list_all}
use Rattle.std.proofs.lemmas.Bool.{and_from, and_parts}
use Rattle.fm_bank.specs.declared.clause.ClauseSet.{ClauseSet}
use Rattle.fm_rounds.specs.Fresh.{HasFreshConstants}
use Rattle.fm_state.specs.Searched.{IsWellSorted, takes_declared}
use Rattle.fm_steps.specs.Searchable.{IsSearchable}

all_at : {X : Type 0} (f : X → Bool) (xs : List X) (i : ℕ) (x : X) → list_all f xs ≡ true → slice_get xs i ≡ Some x → f x ≡ true
all_at f [] i x e h = cc
all_at f (y ∷ xs) zero x e h = let same : y ≡ x = cc in subst (λ z. f z ≡ true) same (and_parts (f y) (list_all f xs) e).0
all_at f (y ∷ xs) (suc i) x e h = all_at f xs i x (and_parts (f y) (list_all f xs) e).1 h

all_from : {X : Type 0} (f : X → Bool) (xs : List X) → ((i : ℕ) (x : X) → slice_get xs i ≡ Some x → f x ≡ true) → list_all f xs ≡ true
all_from f [] h = refl
all_from f (x ∷ xs) h = and_from (f x) (list_all f xs) (h 0 x refl) (all_from f xs (λ i. h (suc i)))

pub well_sorted : (set : ClauseSet) → IsSearchable set → IsWellSorted set
well_sorted set h = record { named = h.named; declared = all_from takes_declared set.sig.ranks h.declared; sorted = h.sorted }

pub searchable : (set : ClauseSet) → IsWellSorted set → HasFreshConstants set → IsSearchable set
searchable set h fresh = record { named = h.named; declared = λ f rank. all_at takes_declared set.sig.ranks f rank h.declared; sorted = h.sorted; fresh = fresh }

pub with_fresh : (set : ClauseSet) (b : Bool) → IsWellSorted set → (b ≡ true) ↔ HasFreshConstants set → (b ≡ true) ↔ IsSearchable set
with_fresh set b h fresh = (λ yes. searchable set h (fresh.0 yes), λ s. fresh.1 s.fresh)

pub not_sorted : (set : ClauseSet) (b : Bool) → (b ≡ true) ↔ IsWellSorted set → b ≡ false → (false ≡ true) ↔ IsSearchable set
not_sorted set b h isnt = (λ e. absurd (cc e), λ s. let yes = h.1 (well_sorted set s) in absurd (cc (yes, isnt)))
