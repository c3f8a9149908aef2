-- Resolution speaks of sets: clauses that are one set give one another's results.
use Rattle.std.proofs.Common.{◌≡◌, ◌≢◌, ℕ, ◌+◌, ◌<◌, ◌≤◌, ◌⊎◌, inl, inr, List, [], ◌∷◌, drop, get_or, Some, length, sym, subst, ◌∙◌}
use Rattle.std.specs.Prelude.{◌↔◌, slice_get}
use Rattle.std.proofs.lemmas.List.{drop_more, drop_all}
use Rattle.fm_bank.specs.declared.literal.Literal.{Literal}
use Rattle.fm_cert.specs.Lines.{Chain, Clause, Has, Resolves, SameSet, opposite}

pub set_refl : (a : Clause) → SameSet a a
set_refl a = λ l. ((λ h. h), (λ h. h))

pub set_sym : (a b : Clause) → SameSet a b → SameSet b a
set_sym a b s = λ l. ((s l).1, (s l).0)

pub set_trans : (a b c : Clause) → SameSet a b → SameSet b c → SameSet a c
set_trans a b c s t = λ l. ((λ h. (t l).0 ((s l).0 h)), (λ h. (s l).1 ((t l).1 h)))

resolves_same : (a a' : Clause) (l : Literal) (b r : Clause) → SameSet a a' → Resolves a l b r → Resolves a' l b r
resolves_same a a' l b r s h =
    record {
      stands = (s l).0 h.stands;
      against = h.against;
      exactly = λ k. (
        (λ (x : Has r k). elim ((h.exactly k).0 x) [
          | inl p ↦ inl ((s k).0 p.0, p.1)
          | inr p ↦ inr p
        ]),
        (λ (x : (Has a' k × (k ≢ l)) ⊎ (Has b k × (k ≢ opposite l))). (h.exactly k).1 (elim x [
          | inl p ↦ inl ((s k).1 p.0, p.1)
          | inr p ↦ inr p
        ])),
      );
    }

resolves_one : (a : Clause) (l : Literal) (b r r' : Clause) → Resolves a l b r → Resolves a l b r' → SameSet r r'
resolves_one a l b r r' h h' = λ k. ((λ x. (h'.exactly k).1 ((h.exactly k).0 x)), (λ x. (h.exactly k).1 ((h'.exactly k).0 x)))

pub chain_same : (cs : List Clause) (now now' : Clause) (steps : List (Literal × ℕ)) (r : Clause) → SameSet now now' → Chain cs now steps r → Chain cs now' steps r
chain_same cs now now' [] r s h = set_trans now' now r (set_sym now now' s) h
chain_same cs now now' (step ∷ steps) r s (other, next, found, resolves, rest) = (other, next, found, resolves_same now now' step.0 other next s resolves, rest)

pub chain_next : (cs : List Clause) (now next other : Clause) (step : Literal × ℕ) (steps : List (Literal × ℕ)) (r : Clause) → slice_get cs step.1 ≡ Some other → Resolves now step.0 other next → Chain cs now (step ∷ steps) r ↔ Chain cs next steps r
chain_next cs now next other step steps r found resolves = (
  (λ (h : Chain cs now (step ∷ steps) r).
      let one : h.0 ≡ other = cc (sym h.2 ∙ found) in
      let there : Resolves now step.0 other h.1 = subst (λ (o : Clause). Resolves now step.0 o h.1) one h.3 in
      chain_same cs h.1 next steps r (resolves_one now step.0 other h.1 next there resolves) h.4),
  (λ (h : Chain cs next steps r). (other, next, found, resolves, h)),
)

pub chain_stop : (cs : List Clause) (now : Clause) (step : Literal × ℕ) (steps : List (Literal × ℕ)) (r : Clause) → ((other : Clause) → slice_get cs step.1 ≡ Some other → Has now step.0 → Has other (opposite step.0) → ⊥) → Chain cs now (step ∷ steps) r → ⊥
chain_stop cs now step steps r refuses (other, next, found, resolves, rest) = refuses other found resolves.stands resolves.against

-- the loop over the steps
module _ (cs : List Clause) (start now : Clause) (steps : List (Literal × ℕ)) (i : ℕ) (d : Literal × ℕ) (lt : i < length steps) (same : (r : Clause) → Chain cs start steps r ↔ Chain cs now (drop i steps) r) where
  pub steps_next : (next : Clause) → (other : Clause) × (slice_get cs (get_or steps i d).1 ≡ Some other) × Resolves now (get_or steps i d).0 other next → (r : Clause) → Chain cs start steps r ↔ Chain cs next (drop (i + 1) steps) r
  steps_next next w r =
      let here = drop_more steps i d lt in
      let go = chain_next cs now next w.0 (get_or steps i d) (drop (i + 1) steps) r w.1 w.2 in
      ((λ h. go.0 (subst (λ (ss : List (Literal × ℕ)). Chain cs now ss r) here ((same r).0 h))), (λ h. (same r).1 (subst (λ (ss : List (Literal × ℕ)). Chain cs now ss r) (sym here) (go.1 h))))

  pub steps_end : ((other : Clause) → slice_get cs (get_or steps i d).1 ≡ Some other → Has now (get_or steps i d).0 → Has other (opposite (get_or steps i d).0) → ⊥) → (r : Clause) → Chain cs start steps r → ⊥
  steps_end refuses r h = chain_stop cs now (get_or steps i d) (drop (i + 1) steps) r refuses (subst (λ (ss : List (Literal × ℕ)). Chain cs now ss r) (drop_more steps i d lt) ((same r).0 h))

pub steps_done : (cs : List Clause) (start now : Clause) (steps : List (Literal × ℕ)) (i : ℕ) → length steps ≤ i → ((r : Clause) → Chain cs start steps r ↔ Chain cs now (drop i steps) r) → (r : Clause) → Chain cs start steps r ↔ SameSet now r
steps_done cs start now steps i le same r =
    let none = drop_all i steps le in
    ((λ h. subst (λ (ss : List (Literal × ℕ)). Chain cs now ss r) none ((same r).0 h)), (λ h. (same r).1 (subst (λ (ss : List (Literal × ℕ)). Chain cs now ss r) (sym none) h)))
