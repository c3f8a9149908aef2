-- Literals by number and by name: a resolution on numbers is one on names, where each number has one name.
use Rattle.std.proofs.Common.{◌≡◌, ◌≢◌, ◌⊎◌, inl, inr, List, [], ◌∷◌, map, refl, sym, ap, subst, ◌∙◌}
use Rattle.std.specs.List.{AllByRecursion}
use Rattle.fm_base.specs.declared.ids.Lit.{Lit}
use Rattle.fm_bank.specs.declared.literal.Literal.{Literal}
use Rattle.fm_cert.specs.Lines.{Has as HasName, Resolves as ResolvesNames, SameSet as SameNames, opposite as opposite_name}
use Rattle.fm_resolve.specs.Chains.{Has, Resolves, SameSet, opposite}

pub all_at : (P : Lit → Type 0) (ls : List Lit) (k : Lit) → AllByRecursion P ls → Has ls k → P k
all_at P [] k h at = absurd at
all_at P (l ∷ ls) k h at =
    elim at [
      | inl e ↦ subst P e h.0
      | inr rest ↦ all_at P ls k h.1 rest
    ]

pub all_from : (P : Lit → Type 0) (ls : List Lit) → ((k : Lit) → Has ls k → P k) → AllByRecursion P ls
all_from P [] h = tt
all_from P (l ∷ ls) h = (h l (inl refl), all_from P ls (λ k at. h k (inr at)))

module _ (name : Lit → Literal) (P : Lit → Type 0) (one : (k l : Lit) → P k → P l → name k ≡ name l → k ≡ l) (turned : (l : Lit) → name (opposite l) ≡ opposite_name (name l)) where
  pub named : (ls : List Lit) (k : Lit) → Has ls k → HasName (map name ls) (name k)
  named [] k h = h
  named (l ∷ ls) k h =
      elim h [
        | inl e ↦ inl (ap name e)
        | inr rest ↦ inr (named ls k rest)
      ]

  pub numbered : (ls : List Lit) (c : Literal) → HasName (map name ls) c → (k : Lit) × Has ls k × (name k ≡ c)
  numbered [] c h = absurd h
  numbered (l ∷ ls) c h =
      elim h [
        | inl e ↦ (l, inl refl, e)
        | inr rest ↦ let r = numbered ls c rest in (r.0, inr r.1, r.2)
      ]

  pub numbered_at : (ls : List Lit) (k : Lit) → AllByRecursion P ls → P k → HasName (map name ls) (name k) → Has ls k
  numbered_at ls k all p h =
      let r = numbered ls (name k) h in
      subst (Has ls) (one r.0 k (all_at P ls r.0 all r.1) p r.2) r.1

  pub same_named : (a b : List Lit) → SameSet a b → SameNames (map name a) (map name b)
  same_named a b s c = (
    (λ (h : HasName (map name a) c). let r = numbered a c h in subst (HasName (map name b)) r.2 (named b r.0 ((s r.0).0 r.1))),
    (λ (h : HasName (map name b) c). let r = numbered b c h in subst (HasName (map name a)) r.2 (named a r.0 ((s r.0).1 r.1))),
  )

  pub resolves_named : (a : List Lit) (l : Lit) (b r : List Lit) → AllByRecursion P a → P l → AllByRecursion P b → P (opposite l) → Resolves a l b r → ResolvesNames (map name a) (name l) (map name b) (map name r)
  resolves_named a l b r pa pl pb po h =
      record {
        stands = named a l h.stands;
        against = subst (HasName (map name b)) (turned l) (named b (opposite l) h.against);
        exactly = λ c. (
          (λ (x : HasName (map name r) c).
              let k = numbered r c x in
              elim ((h.exactly k.0).0 k.1) [
                | inl left ↦ inl (subst (HasName (map name a)) k.2 (named a k.0 left.0), λ (q : c ≡ name l). left.1 (one k.0 l (all_at P a k.0 pa left.0) pl (k.2 ∙ q)))
                | inr right ↦ inr (subst (HasName (map name b)) k.2 (named b k.0 right.0), λ (q : c ≡ opposite_name (name l)). right.1 (one k.0 (opposite l) (all_at P b k.0 pb right.0) po (k.2 ∙ (q ∙ sym (turned l)))))
              ]),
          (λ (x : (HasName (map name a) c × (c ≢ name l)) ⊎ (HasName (map name b) c × (c ≢ opposite_name (name l)))).
              elim x [
                | inl left ↦
                    let k = numbered a c left.0 in
                    subst (HasName (map name r)) k.2 (named r k.0 ((h.exactly k.0).1 (inl (k.1, λ (q : k.0 ≡ l). left.1 (sym k.2 ∙ ap name q)))))
                | inr right ↦
                    let k = numbered b c right.0 in
                    subst (HasName (map name r)) k.2 (named r k.0 ((h.exactly k.0).1 (inr (k.1, λ (q : k.0 ≡ opposite l). right.1 (sym k.2 ∙ (ap name q ∙ turned l))))))
              ]),
        );
      }
