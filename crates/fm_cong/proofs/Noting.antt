-- More places of the terms that have a node as an argument.
use Rattle.std.proofs.Common.{◌≡◌, ℕ, zero, suc, ◌+◌, ◌<◌, List, [], ◌∷◌, ◌++◌, length, take, inl, inr, refl, sym, subst, ap, ◌∙◌, arith, get_or, get_or-set_same, get_or-set_other}
use Rattle.std.specs.Prelude.{slice_set}
use Rattle.std.specs.List.{All, Contains}
use Rattle.std.proofs.lemmas.Bool.Decides.{eqb_tells}
use Rattle.std.proofs.lemmas.List.{take_more}
use Rattle.std.proofs.lemmas.List.Elements.{All-push, All-weaker, Contains-append_left, Contains-push}
use Rattle.fm_bank.specs.Closure.{object}
use Rattle.fm_cong.specs.Growth.{HasMoreUses, HasPlace, HasPlaceAt}
use Rattle.fm_cong.specs.Tables.{uses_at}

pub get_any : {X : Type 0} → (xs : List X) (k : ℕ) (d e : X) → k < length xs → get_or xs k d ≡ get_or xs k e
get_any [] k d e lt = absurd (omega (arith, lt))
get_any (x ∷ xs) zero d e lt = refl
get_any (x ∷ xs) (suc k) d e lt = get_any xs k d e (omega (arith, lt))

module _ (us vs : List (List ℕ)) (node place : ℕ) (lt : node < length us) (set : vs ≡ slice_set us node (uses_at us node ++ place ∷ [])) where
  at_node : uses_at vs node ≡ uses_at us node ++ place ∷ []
  at_node = ap (λ xs. uses_at xs node) set ∙ get_or-set_same us node (uses_at us node ++ place ∷ []) [] lt

  pub noted_there : HasPlaceAt vs node place
  noted_there = subst (λ xs. Contains xs place) (sym at_node) (Contains-push (uses_at us node) place)

  pub noted_kept : HasMoreUses us vs
  noted_kept x i h =
      elim (eqb_tells x node) [
        | inl same ↦ subst (λ y. Contains (uses_at vs y) i) (sym same.1) (subst (λ xs. Contains xs i) (sym at_node) (Contains-append_left (uses_at us node) (place ∷ []) i (subst (λ y. Contains (uses_at us y) i) same.1 h)))
        | inr other ↦ subst (λ xs. Contains xs i) (sym (ap (λ xs. uses_at xs x) set ∙ get_or-set_other us node x (uses_at us node ++ place ∷ []) [] other.1)) h
      ]

pub more_none : (us : List (List ℕ)) → HasMoreUses us us
more_none us x i h = h

pub more_uses : (us vs ws : List (List ℕ)) → HasMoreUses us vs → HasMoreUses vs ws → HasMoreUses us ws
more_uses us vs ws p q x i h = q x i (p x i h)

pub more_same : (us vs : List (List ℕ)) → vs ≡ us → HasMoreUses us vs
more_same us vs e x i h = subst (λ xs. Contains (uses_at xs x) i) (sym e) h

-- a list more has no place
empty_push : (us : List (List ℕ)) (x i : ℕ) → Contains (uses_at us x) i → Contains (uses_at (us ++ [] ∷ []) x) i
empty_push [] zero i h = h
empty_push [] (suc x) i h = h
empty_push (u ∷ us) zero i h = h
empty_push (u ∷ us) (suc x) i h = empty_push us x i h

pub more_push : (us vs : List (List ℕ)) → vs ≡ us ++ [] ∷ [] → HasMoreUses us vs
more_push us vs e x i h = subst (λ xs. Contains (uses_at xs x) i) (sym e) (empty_push us x i h)

pub places_more : (us vs : List (List ℕ)) (args : List ℕ) (i arg place : ℕ) → i < length args → arg ≡ get_or args i 0 → HasMoreUses us vs → HasPlaceAt vs (object arg) place → HasPlace us (take i args) place → HasPlace vs (take (i + 1) args) place
places_more us vs args i arg place lt e more here h =
    let P : ℕ → Type 0 = λ a. HasPlaceAt vs (object a) place in
    subst (All P) (sym (take_more args i 0 lt ∙ ap (λ c. take i args ++ c ∷ []) (sym e))) (All-push P (take i args) arg (All-weaker (λ a. HasPlaceAt us (object a) place) P (λ a k. more (object a) place k) (take i args) h) here)
