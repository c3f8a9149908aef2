-- What holds of each element of a front of a list.
use Rattle.std.proofs.Common.{◌≡◌, ℕ, zero, suc, ◌+◌, ◌<◌, List, [], ◌∷◌, ◌++◌, length, take, get_or, sym, subst, ap, ◌∙◌, append_assoc, append-nil, arith}
use Rattle.std.specs.List.{AllByRecursion, flat_map}
use Rattle.std.proofs.lemmas.Grind.{flat_map-append}
use Rattle.std.proofs.lemmas.List.{take_more}

module _ {X : Type 0} (g : X → Type 0) where
  pub all_join : (xs ys : List X) → AllByRecursion g xs → AllByRecursion g ys → AllByRecursion g (xs ++ ys)
  all_join [] ys h k = k
  all_join (x ∷ xs) ys h k = (h.0, all_join xs ys h.1 k)

  pub all_parts : (xs ys : List X) → AllByRecursion g (xs ++ ys) → AllByRecursion g xs × AllByRecursion g ys
  all_parts [] ys h = (tt, h)
  all_parts (x ∷ xs) ys h = let p = all_parts xs ys h.1 in ((h.0, p.0), p.1)

  pub all_at : (xs : List X) (i : ℕ) (d : X) → i < length xs → AllByRecursion g xs → g (get_or xs i d)
  all_at [] i d lt h = absurd (omega arith)
  all_at (x ∷ xs) zero d lt h = h.0
  all_at (x ∷ xs) (suc i) d lt h = all_at xs i d (omega arith) h.1

  pub taken_more : (xs : List X) (i : ℕ) (d : X) → i < length xs → AllByRecursion g (take i xs) → g (get_or xs i d) → AllByRecursion g (take (i + 1) xs)
  taken_more xs i d lt h k = subst (AllByRecursion g) (sym (take_more xs i d lt)) (all_join (take i xs) (get_or xs i d ∷ []) h (k, tt))

-- the text of one more element
pub text_more : {X : Type 0} (f : X → List ℕ) (start now next : List ℕ) (xs : List X) (i : ℕ) (d : X) → i < length xs → now ≡ start ++ flat_map f (take i xs) → next ≡ now ++ f (get_or xs i d) → next ≡ start ++ flat_map f (take (i + 1) xs)
text_more f start now next xs i d lt so_far is =
    let x = get_or xs i d in
    let one : flat_map f (take (i + 1) xs) ≡ flat_map f (take i xs) ++ f x = ap (flat_map f) (take_more xs i d lt) ∙ (flat_map-append f (take i xs) (x ∷ []) ∙ ap (λ (z : List ℕ). flat_map f (take i xs) ++ z) (append-nil (f x))) in
    is ∙ (ap (λ (z : List ℕ). z ++ f x) so_far ∙ (append_assoc start (flat_map f (take i xs)) (f x) ∙ ap (λ (z : List ℕ). start ++ z) (sym one)))
