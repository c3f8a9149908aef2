-- Lists of items on the way through a script.
use Rattle.std.proofs.Common.{◌≡◌, ℕ, ◌+◌, ◌<◌, true, Bool, List, [], ◌∷◌, drop, get_or, length, refl, suc, zero, sym, ap, subst, ◌∙◌, arith}
use Rattle.std.specs.List.{All, list_all}
use Rattle.std.proofs.lemmas.Bool.{and_parts}
use Rattle.std.proofs.lemmas.List.{drop_more}
use Rattle.fm_sexp.specs.Items.{all_within, spans_within}
use Rattle.fm_sexp.specs.declared.items.Sexp.{Sexp}

pub within_next : (n : ℕ) (items : List Sexp) (i : ℕ) (x : Sexp) → i < length items → all_within n (drop i items) ≡ true → (spans_within n (get_or items i x) ≡ true) × (all_within n (drop (i + 1) items) ≡ true)
within_next n items i x lt h =
    let here : all_within n (get_or items i x ∷ drop (i + 1) items) ≡ true = subst (λ xs. all_within n xs ≡ true) (drop_more items i x lt) h in
    and_parts (spans_within n (get_or items i x)) (all_within n (drop (i + 1) items)) here

pub all_by_test : {X : Type 0} (p : X → Bool) (xs : List X) → All (λ x. p x ≡ true) xs → list_all p xs ≡ true
all_by_test p [] h = refl
all_by_test p (x ∷ xs) h =
    let here : p x ≡ true = h zero x (omega arith) in
    let rest = all_by_test p xs (λ k d lt. h (suc k) d (omega arith)) in
    cc (here, rest)

pub at_item : (items : List Sexp) (i : ℕ) (x : Sexp) → i < length items → x ≡ get_or items i x → drop i items ≡ x ∷ drop (i + 1) items
at_item items i x lt is = drop_more items i x lt ∙ ap (λ (y : Sexp). y ∷ drop (i + 1) items) (sym is)
