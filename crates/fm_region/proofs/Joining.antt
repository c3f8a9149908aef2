-- What stands where, once one stands in place of two.
use Rattle.std.proofs.Common.{◌≡◌, ℕ, ◌+◌, ◌<◌, ◌≤◌, ◌⊎◌, List, [], length, min, max, inl, inr, refl, ap, ◌∙◌, arith, get_or, length-set}
use Rattle.std.specs.Prelude.{slice_set}
use Rattle.std.specs.List.{remove}
use Rattle.std.proofs.lemmas.Bool.{cases_eq, cases_lt}
use Rattle.std.proofs.lemmas.List.{get_or-set_other, get_or-set_same}
use Rattle.std.proofs.lemmas.List.Edits.{get_or-remove_above, get_or-remove_below}
use Rattle.fm_bank.specs.Regions.{after_join, joined, region_at}

-- what stands at m is one of those that were, and neither of the two
pub record Stays {X : Type 0} (old new : List X) (d : X) (i j m : ℕ) : Type 0 where
  pub from : ℕ
  pub stays : get_or new m d ≡ get_or old from d
  pub other : from ≡ i → ⊥
  pub neither : from ≡ j → ⊥
  pub place : ((m < max i j) × (from ≡ m)) ⊎ ((max i j ≤ m) × (from ≡ m + 1))

module _ {X : Type 0} (xs : List X) (x d : X) (i j : ℕ) (il : i < length xs) (jl : j < length xs) (ne : i ≡ j → ⊥) where
  abbrev set : List X
  set = slice_set xs (min i j) x

  pub put_at : (m : ℕ) → ((m ≡ min i j) × (get_or (remove set (max i j)) m d ≡ x)) ⊎ Stays xs (remove set (max i j)) d i j m
  put_at m =
      let same = length-set xs (min i j) x in
      elim (cases_lt m (max i j)) [
        | inl before ↦
            let kept : get_or (remove set (max i j)) m d ≡ get_or set m d = get_or-remove_below set (max i j) d m before (omega (arith, il, jl, same)) in
            elim (cases_eq m (min i j)) [
              | inl here ↦ inl (here, kept ∙ (ap (λ (n : ℕ). get_or set n d) here ∙ get_or-set_same xs (min i j) x d (omega (arith, il, jl))))
              | inr there ↦ inr (record {
                from = m;
                stays = kept ∙ get_or-set_other xs (min i j) m x d there;
                other = λ e. omega (arith, e, before, there, ne);
                neither = λ e. omega (arith, e, before, there, ne);
                place = inl (before, refl);
              })
            ]
        | inr after ↦ inr (record {
          from = m + 1;
          stays = get_or-remove_above set (max i j) d m after (omega (arith, il, jl, same)) ∙ get_or-set_other xs (min i j) (m + 1) x d (λ e. omega (arith, e, after));
          other = λ e. omega (arith, e, after);
          neither = λ e. omega (arith, e, after);
          place = inr (after, refl);
        })
      ]

abbrev pub Joins : List ℕ → List (List ℕ) → ℕ → ℕ → ℕ → Type 0
Joins classes rs i j m = Stays rs (after_join classes rs i j) [] i j m

pub join_at : (classes : List ℕ) (rs : List (List ℕ)) (i j : ℕ) → i < length rs → j < length rs → (i ≡ j → ⊥) → (m : ℕ) → ((m ≡ min i j) × (region_at (after_join classes rs i j) m ≡ joined classes (region_at rs i) (region_at rs j))) ⊎ Joins classes rs i j m
join_at classes rs i j il jl ne m = put_at rs (joined classes (region_at rs i) (region_at rs j)) [] i j il jl ne m
