-- The first of two groups that isn't empty, and what a test's pair offers.
use Rattle.std.proofs.Common.{◌≡◌, ℕ, zero, suc, Bool, true, false, cond, List, [], ◌∷◌, ◌++◌, take, Some, None, refl, sym, ap, ◌∙◌}
use Rattle.std.specs.Prelude.{Option}
use Rattle.fm_bank.specs.declared.atom.Atom.{Atom}
use Rattle.fm_steps.specs.Menu.{clause_atoms, decisions_of, free_decisions, or_else, pair_offers, size_decisions, split_offers}
use Rattle.fm_steps.specs.Rows.{Offer}
use Rattle.fm_steps.specs.Sizes.{is_unvalued, lit}
use Rattle.fm_steps.specs.State.{Pick, State}
use Rattle.fm_state.specs.Groups.{first_decisions, pair_of}

decisions_by : (a b : Bool) (d : Offer) (fs ss cs : List Offer) → or_else (cond a fs (cond b (d ∷ []) ss)) cs ≡ cond a (or_else fs cs) (cond b (d ∷ []) (or_else ss cs))
decisions_by true b d fs ss cs = refl
decisions_by false true d fs ss cs = refl
decisions_by false false d fs ss cs = refl

decisions_is : (s : State) → or_else (first_decisions s) (clause_atoms s) ≡ decisions_of s
decisions_is s = decisions_by s.free (is_unvalued s (Atom.Bound s.bound)) (Offer.Decide (lit true (Atom.Bound s.bound))) (free_decisions s) (size_decisions s) (clause_atoms s)

some_of : (n : ℕ) (x : Offer) (os xs ys : List Offer) → take n (x ∷ os) ≡ take n xs → take n (x ∷ os) ≡ take n (or_else xs ys)
some_of zero x os xs ys h = refl
some_of (suc n) x os [] ys h = absurd cc
some_of (suc n) x os (z ∷ zs) ys h = h

none_of : (n : ℕ) (xs ys : List Offer) → take n [] ≡ take n xs → take n ys ≡ take n (or_else xs ys)
none_of zero xs ys h = refl
none_of (suc n) [] ys h = refl
none_of (suc n) (z ∷ zs) ys h = absurd cc

some_by : (n : ℕ) (os xs ys : List Offer) → (os ≡ [] → ⊥) → take n os ≡ take n xs → take n os ≡ take n (or_else xs ys)
some_by n [] xs ys ne h = absurd (ne refl)
some_by n (x ∷ os) xs ys ne h = some_of n x os xs ys h

pub decided_first : (s : State) (n : ℕ) (os : List Offer) → (os ≡ [] → ⊥) → take n os ≡ take n (first_decisions s) → take n os ≡ take n (decisions_of s)
decided_first s n os ne h = some_by n os (first_decisions s) (clause_atoms s) ne h ∙ ap (take n) (decisions_is s)

pub decided_then : (s : State) (n : ℕ) (old new : List Offer) → old ≡ [] → take n old ≡ take n (first_decisions s) → take n new ≡ take n (old ++ clause_atoms s) → take n new ≡ take n (decisions_of s)
decided_then s n old new none h e =
    let first : take n [] ≡ take n (first_decisions s) = ap (take n) (sym none) ∙ h in
    e ∙ ap (λ l. take n (l ++ clause_atoms s)) none ∙ none_of n (first_decisions s) (clause_atoms s) first ∙ ap (take n) (decisions_is s)

pub no_pair : (s : State) (p : Option Pick) → None ≡ pair_of p → split_offers s p ≡ []
no_pair s None e = refl
no_pair s (Some pick) e = ap (pair_offers s) (sym e)

pub some_pair : (s : State) (p : Option Pick) (q : ℕ × ℕ) → Some q ≡ pair_of p → pair_offers s (Some q) ≡ split_offers s p
some_pair s None q e = absurd (cc e)
some_pair s (Some pick) q e = ap (pair_offers s) e
