-- What the classes of a settled state say of unequal terms and of truth.
use Rattle.std.proofs.Common.{◌≡◌, ◌↔◌, ℕ, ◌||◌, Bool, true, false, cond, List, [], ◌∷◌, Option, Some, None, inl, inr, refl, sym, ap, ◌∙◌}
use Rattle.std.specs.Prelude.{◌==◌, ◌&&◌}
use Rattle.std.specs.List.{cons_option}
use Rattle.std.proofs.lemmas.Bool.{eq-eqb, eqb-true, false≢true, or_cases, or_left, or_right}
use Rattle.std.proofs.lemmas.Bool.Decides.{eqb_tells}
use Rattle.fm_bank.specs.Closure.{AreApart, AreSides, Follows, Shape, no as the_no, object, yes as the_yes}
use Rattle.fm_cells.specs.Rings.{own_or}
use Rattle.fm_cong.specs.Facts.{are_parted, is_between, is_parted, unequal_by, unequal_of}
use Rattle.fm_cong.specs.Held.{AreEqual, Held, IsTruth}
use Rattle.fm_cong.specs.States.{truth_by}
use Rattle.fm_cong.specs.declared.fact.Fact.{Fact}

and_parts : (a b : Bool) → (a && b) ≡ true → (a ≡ true) × (b ≡ true)
and_parts true b h = (refl, h)
and_parts false b h = absurd (false≢true h)

and_made : (a b : Bool) → a ≡ true → b ≡ true → (a && b) ≡ true
and_made true b p q = q
and_made false b p q = absurd (false≢true p)

module _ (shapes : List Shape) (pairs : List (ℕ × ℕ)) (cells : List ℕ) (exact : (x y : ℕ) → (own_or cells x ≡ own_or cells y) ↔ Follows shapes pairs x y) where
  sides_from : (a b : ℕ) (p : ℕ × ℕ) → is_between (own_or cells) (object a) (object b) p ≡ true → AreSides shapes pairs a b p
  sides_from a b p h =
      let class = own_or cells in
      let both = and_parts (class (object a) == class (object p.0)) (class (object b) == class (object p.1)) h in
      ((exact (object a) (object p.0)).0 (eqb-true (class (object a)) (class (object p.0)) both.0), (exact (object b) (object p.1)).0 (eqb-true (class (object b)) (class (object p.1)) both.1))

  sides_to : (a b : ℕ) (p : ℕ × ℕ) → AreSides shapes pairs a b p → is_between (own_or cells) (object a) (object b) p ≡ true
  sides_to a b p h =
      let class = own_or cells in
      and_made (class (object a) == class (object p.0)) (class (object b) == class (object p.1)) (eq-eqb (class (object a)) (class (object p.0)) ((exact (object a) (object p.0)).1 h.0)) (eq-eqb (class (object b)) (class (object p.1)) ((exact (object b) (object p.1)).1 h.1))

  module _ (a b : ℕ) where
    one_from : (o : Option (ℕ × ℕ)) (rest : List (ℕ × ℕ)) (t : Bool) → (t ≡ true → AreApart shapes pairs rest a b) → (is_parted cells (object a) (object b) o || t) ≡ true → AreApart shapes pairs (cons_option o rest) a b
    one_from None rest t f h = f h
    one_from (Some p) rest t f h =
        elim (or_cases (is_parted cells (object a) (object b) (Some p)) t h) [
          | inl here ↦ elim (or_cases (is_between (own_or cells) (object a) (object b) p) (is_between (own_or cells) (object b) (object a) p) here) [
            | inl left ↦ inl (inl (sides_from a b p left))
            | inr right ↦ inl (inr (sides_from b a p right))
          ]
          | inr there ↦ inr (f there)
        ]

    one_to : (o : Option (ℕ × ℕ)) (rest : List (ℕ × ℕ)) (t : Bool) → (AreApart shapes pairs rest a b → t ≡ true) → AreApart shapes pairs (cons_option o rest) a b → (is_parted cells (object a) (object b) o || t) ≡ true
    one_to None rest t f h = f h
    one_to (Some p) rest t f h =
        let left = is_between (own_or cells) (object a) (object b) p in
        let right = is_between (own_or cells) (object b) (object a) p in
        elim h [
          | inl here ↦ or_left (left || right) t (elim here [ inl k ↦ or_left left right (sides_to a b p k) | inr k ↦ or_right left right (sides_to b a p k) ])
          | inr there ↦ or_right (left || right) t (f there)
        ]

    pub parted_from : (facts : List Fact) → are_parted cells (object a) (object b) facts ≡ true → AreApart shapes pairs (unequal_of facts) a b
    parted_from [] h = absurd (false≢true h)
    parted_from (f ∷ facts) h = one_from (unequal_by f) (unequal_of facts) (are_parted cells (object a) (object b) facts) (parted_from facts) h

    pub parted_to : (facts : List Fact) → AreApart shapes pairs (unequal_of facts) a b → are_parted cells (object a) (object b) facts ≡ true
    parted_to [] h = absurd h
    parted_to (f ∷ facts) h = one_to (unequal_by f) (unequal_of facts) (are_parted cells (object a) (object b) facts) (parted_to facts) h

-- truth

some_true : Some true ≡ Some false → ⊥
some_true h = absurd cc

none_some : (b : Bool) → None ≡ Some b → ⊥
none_some b h = cc

module _ (g : Held) (class : ℕ → ℕ) (exact : (x y : ℕ) → (class x ≡ class y) ↔ AreEqual g x y) (n : ℕ) (truth : Option Bool) (is : truth ≡ truth_by class (object n)) where
  pub truth_tells : IsTruth g n truth
  truth_tells =
      elim (eqb_tells (class (object n)) (class the_yes)) [
        | inl same ↦
            let t : truth ≡ Some true = is ∙ ap (λ b. cond b (Some true) (cond (class (object n) == class the_no) (Some false) None)) same.0 in
            record {
              yes = ((λ _. (exact (object n) the_yes).0 same.1), (λ _. t));
              no = ((λ h. absurd (some_true (sym t ∙ h))), (λ h. absurd (h.1 ((exact (object n) the_yes).0 same.1))));
            }
        | inr other ↦ elim (eqb_tells (class (object n)) (class the_no)) [
          | inl same ↦
              let t : truth ≡ Some false = is ∙ (ap (λ b. cond b (Some true) (cond (class (object n) == class the_no) (Some false) None)) other.0 ∙ ap (λ b. cond b (Some false) None) same.0) in
              record {
                yes = ((λ h. absurd (some_true (sym h ∙ t))), (λ h. absurd (other.1 ((exact (object n) the_yes).1 h))));
                no = ((λ _. ((exact (object n) the_no).0 same.1, λ h. other.1 ((exact (object n) the_yes).1 h))), (λ _. t));
              }
          | inr apart ↦
              let t : truth ≡ None = is ∙ (ap (λ b. cond b (Some true) (cond (class (object n) == class the_no) (Some false) None)) other.0 ∙ ap (λ b. cond b (Some false) None) apart.0) in
              record {
                yes = ((λ h. absurd (none_some true (sym t ∙ h))), (λ h. absurd (other.1 ((exact (object n) the_yes).1 h))));
                no = ((λ h. absurd (none_some false (sym t ∙ h))), (λ h. absurd (apart.1 ((exact (object n) the_no).1 h.0))));
              }
        ]
      ]
