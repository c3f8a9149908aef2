-- A list isn't longer than another one, where each of its elements goes with one of that, and no two with the same.
use Rattle.std.proofs.Common.{◌≡◌, suc, ◌≤◌, ◌⊎◌, Bool, true, List, [], ◌∷◌, length, inl, inr, refl, sym, subst, ◌∙◌, arith}
use Rattle.fm_base.specs.Resolution.{Has}

-- the list without one of its elements
pub record IsTakenOut {X : Type 0} (xs : List X) (x : X) : Type 0 where
  pub rest : List X
  pub count : length xs ≡ suc (length rest)
  pub others : (y : X) → Has xs y → (x ≡ y) ⊎ Has rest y

pub taken_out : {X : Type 0} (xs : List X) (x : X) → Has xs x → IsTakenOut xs x
taken_out [] x h = absurd h
taken_out {X} (z ∷ xs) x (inl e) = record { rest = xs; count = refl; others = λ y q. elim q [ inl s ↦ inl (sym e ∙ s) | inr r ↦ inr r ] }
taken_out {X} (z ∷ xs) x (inr h) =
    let t = taken_out xs x h in
    record {
      rest = z ∷ t.rest;
      count = (let c = t.count in omega (arith, c));
      others = λ y q. elim q [
        | inl s ↦ inr (inl s)
        | inr r ↦ elim (t.others y r) [ inl e ↦ inl e | inr m ↦ inr (inr m) ]
      ];
    }

module _ {X Y : Type 0} (goes : X → Y → Bool) where
  abbrev pub Spread : List X → Type 0
  Spread [] = Unit {0}
  Spread (x ∷ xs) = ((z : X) (y : Y) → Has xs z → goes x y ≡ true → goes z y ≡ true → ⊥) × Spread xs

  pub no_longer : (xs : List X) (ys : List Y) → Spread xs → ((x : X) → Has xs x → (y : Y) × Has ys y × (goes x y ≡ true)) → length xs ≤ length ys
  no_longer [] ys spread h = omega arith
  no_longer (x ∷ xs) ys spread h =
      let w = h x (inl refl) in
      let t = taken_out ys w.0 w.1 in
      let more = no_longer xs t.rest spread.1 (λ z q.
      let v = h z (inr q) in
      elim (t.others v.0 v.1) [
        | inl e ↦ absurd (spread.0 z w.0 q w.2 (subst (λ y. goes z y ≡ true) (sym e) v.2))
        | inr r ↦ (v.0, r, v.2)
      ]) in
      let count = t.count in
      omega (arith, more, count)
