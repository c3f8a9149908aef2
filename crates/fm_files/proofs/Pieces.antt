-- Bytes that are written piece by piece.
use Rattle.std.proofs.Common.{◌≡◌, ℕ, List, [], ◌++◌, take, drop, Option, Some, None, sym, ◌∙◌, ap, append_assoc}
use Rattle.std.proofs.lemmas.List.{append-nil, take-append-drop}
use Rattle.fm_files.specs.Seen.{Extends, ExtendsPart}

pub Extends-nil : (a : Option (List ℕ)) → Extends a a []
Extends-nil None = tt
Extends-nil (Some xs) = sym (append-nil xs)

pub Extends-then : (a b c : Option (List ℕ)) (xs ys : List ℕ) → Extends a b xs → Extends b c ys → Extends a c (xs ++ ys)
Extends-then None None None xs ys p q = tt
Extends-then None None (Some c) xs ys p q = absurd q
Extends-then None (Some b) c xs ys p q = absurd p
Extends-then (Some a) None c xs ys p q = absurd p
Extends-then (Some a) (Some b) None xs ys p q = absurd q
Extends-then (Some a) (Some b) (Some c) xs ys p q = q ∙ (ap (λ (zs : List ℕ). zs ++ ys) p ∙ append_assoc a xs ys)

pub Part-then : (a b c : Option (List ℕ)) (bs front rest : List ℕ) → bs ≡ front ++ rest → Extends a b front → ExtendsPart b c rest → ExtendsPart a c bs
Part-then a b c bs front rest e p (more, back, split, q) =
    (front ++ more, back, e ∙ ap (λ x. front ++ x) split ∙ sym (append_assoc front more back), Extends-then a b c front more p q)

pub split_more : (bs front rest after : List ℕ) (k : ℕ) → bs ≡ front ++ rest → after ≡ drop k rest → bs ≡ (front ++ take k rest) ++ after
split_more bs front rest after k e h =
    e ∙ ap (λ x. front ++ x) (sym (take-append-drop k rest) ∙ ap (λ x. take k rest ++ x) (sym h)) ∙ sym (append_assoc front (take k rest) after)
