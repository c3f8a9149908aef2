-- Resolution under another name for each literal: a chain over numbered literals is a chain over what they stand for.
use Rattle.std.proofs.Common.{◌≡◌, ◌≢◌, ℕ, List, [], ◌∷◌, map, Some, inl, inr, refl, sym, subst, ap, ◌∙◌}
use Rattle.std.specs.Prelude.{slice_get, ◌⊎◌, ◌↔◌}
use Rattle.fm_base.specs.Resolution.{Chain, Has, Resolves, SameSet}

pub has_mapped : {L M : Type 0} (f : L → M) (c : List L) (l : L) → Has c l → Has (map f c) (f l)
has_mapped f [] l h = absurd h
has_mapped f (k ∷ c) l h = elim h [ inl here ↦ inl (ap f here) | inr more ↦ inr (has_mapped f c l more) ]

pub record ComesFrom {L M : Type 0} (f : L → M) (c : List L) (m : M) : Type 0 where
  pub lit : L
  pub has : Has c lit
  pub is : f lit ≡ m

pub mapped_has : {L M : Type 0} (f : L → M) (c : List L) (m : M) → Has (map f c) m → ComesFrom f c m
mapped_has f [] m h = absurd h
mapped_has f (k ∷ c) m h =
    elim h [
      | inl here ↦ record { lit = k; has = inl refl; is = here }
      | inr more ↦ let w = mapped_has f c m more in record { lit = w.lit; has = inr w.has; is = w.is }
    ]

-- the names commute with the sign, and are one to one on the literals of a kind
pub record AreNames {L M : Type 0} (f : L → M) (opposite : L → L) (against : M → M) (Of : L → Type 0) : Type 0 where
  pub signs : (l : L) → f (opposite l) ≡ against (f l)
  pub apart : (k l : L) → Of k → Of l → f k ≡ f l → k ≡ l
  pub closed : (l : L) → Of l → Of (opposite l)

abbrev pub AllOf : {L : Type 0} → (L → Type 0) → List L → Type 0
AllOf {L} Of c = (l : L) → Has c l → Of l

pub resolves_named : {L M : Type 0} (f : L → M) (opposite : L → L) (against : M → M) (Of : L → Type 0) → AreNames f opposite against Of → (a : List L) (l : L) (b r : List L) (b' : List M) → AllOf Of a → AllOf Of b → SameSet (map f b) b' → Resolves opposite a l b r → Resolves against (map f a) (f l) b' (map f r)
resolves_named {L} {M} f opposite against Of names a l b r b' ofa ofb same res =
    let ofl = ofa l res.stands in
    record {
      stands = has_mapped f a l res.stands;
      against = (same (against (f l))).0 (subst (Has (map f b)) (names.signs l) (has_mapped f b (opposite l) res.against));
      exactly = λ m. (
        λ h.
            let w = mapped_has f r m h in
            elim ((res.exactly w.lit).0 w.has) [
              | inl old ↦ inl (subst (Has (map f a)) w.is (has_mapped f a w.lit old.0), λ q. old.1 (names.apart w.lit l (ofa w.lit old.0) ofl (w.is ∙ q)))
              | inr new ↦ inr ((same m).0 (subst (Has (map f b)) w.is (has_mapped f b w.lit new.0)), λ q. new.1 (names.apart w.lit (opposite l) (ofb w.lit new.0) (names.closed l ofl) (w.is ∙ (q ∙ sym (names.signs l)))))
            ],
        λ h. elim h [
          | inl old ↦
              let w = mapped_has f a m old.0 in
              subst (Has (map f r)) w.is (has_mapped f r w.lit ((res.exactly w.lit).1 (inl (w.has, λ q. old.1 (sym w.is ∙ ap f q)))))
          | inr new ↦
              let w = mapped_has f b m ((same m).1 new.0) in
              subst (Has (map f r)) w.is (has_mapped f r w.lit ((res.exactly w.lit).1 (inr (w.has, λ q. new.1 (sym w.is ∙ (ap f q ∙ names.signs l))))))
        ],
      );
    }

of_resolvent : {L : Type 0} (opposite : L → L) (Of : L → Type 0) (a : List L) (l : L) (b r : List L) → AllOf Of a → AllOf Of b → Resolves opposite a l b r → AllOf Of r
of_resolvent opposite Of a l b r ofa ofb res k h = elim ((res.exactly k).0 h) [ inl old ↦ ofa k old.0 | inr new ↦ ofb k new.0 ]

-- each clause of the one list stands, under the names, at its place in the other
abbrev pub AreMade : {L M : Type 0} → (L → M) → (L → Type 0) → (ℕ → ℕ) → List (List L) → List (List M) → Type 0
AreMade {L} {M} f Of made cs ds = (i : ℕ) (c : List L) → slice_get cs i ≡ Some c → AllOf Of c × ((d : List M) × (slice_get ds (made i) ≡ Some d) × SameSet (map f c) d)

pub chain_named : {L M : Type 0} (f : L → M) (opposite : L → L) (against : M → M) (Of : L → Type 0) → AreNames f opposite against Of → (made : ℕ → ℕ) (cs : List (List L)) (ds : List (List M)) → AreMade f Of made cs ds → (now : List L) (ss : List (L × ℕ)) (end : List L) → AllOf Of now → Chain opposite cs now ss end → Chain against ds (map f now) (map (λ (s : L × ℕ). (f s.0, made s.1)) ss) (map f end)
chain_named f opposite against Of names made cs ds all now [] end of' d = λ m. (
  λ h. let w = mapped_has f now m h in subst (Has (map f end)) w.is (has_mapped f end w.lit ((d w.lit).0 w.has)),
  λ h. let w = mapped_has f end m h in subst (Has (map f now)) w.is (has_mapped f now w.lit ((d w.lit).1 w.has)),
)
chain_named f opposite against Of names made cs ds all now (s ∷ ss) end of' (other, next, stored, res, rest) =
    let m = all s.1 other stored in
    (m.1.0, map f next, m.1.1, resolves_named f opposite against Of names now s.0 other next m.1.0 of' m.0 m.1.2 res, chain_named f opposite against Of names made cs ds all next ss end (of_resolvent opposite Of now s.0 other next of' m.0 res) rest)

-- a chain from the same set
pub chain_from : {L : Type 0} (opposite : L → L) (cs : List (List L)) (a b : List L) (ss : List (L × ℕ)) (end : List L) → SameSet a b → Chain opposite cs b ss end → Chain opposite cs a ss end
chain_from opposite cs a b [] end same d = λ k. (λ h. (d k).0 ((same k).0 h), λ h. (same k).1 ((d k).1 h))
chain_from opposite cs a b (s ∷ ss) end same (other, next, stored, r, rest) = (
  other,
  next,
  stored,
  record {
    stands = (same s.0).1 r.stands;
    against = r.against;
    exactly = λ k. (λ h. elim ((r.exactly k).0 h) [ inl old ↦ inl ((same k).1 old.0, old.1) | inr new ↦ inr new ], λ h. (r.exactly k).1 (elim h [ inl old ↦ inl ((same k).0 old.0, old.1) | inr new ↦ inr new ]));
  },
  rest,
)

-- what a chain gives is of the kind that all clauses are of
pub of_end : {L M : Type 0} (f : L → M) (opposite : L → L) (Of : L → Type 0) (made : ℕ → ℕ) (cs : List (List L)) (ds : List (List M)) → AreMade f Of made cs ds → (now : List L) (ss : List (L × ℕ)) (end : List L) → AllOf Of now → Chain opposite cs now ss end → AllOf Of end
of_end f opposite Of made cs ds all now [] end of' d = λ k h. of' k ((d k).1 h)
of_end f opposite Of made cs ds all now (s ∷ ss) end of' (other, next, stored, res, rest) = of_end f opposite Of made cs ds all next ss end (of_resolvent opposite Of now s.0 other next of' (all s.1 other stored).0 res) rest
