-- How deep items nest.
use Rattle.std.proofs.Common.{List, [], ap, arith, get_or, length, map, refl, subst, suc, sym, true, zero, ℕ, ◌++◌, ◌<◌, ◌∷◌, ◌≡◌, ◌≤◌}
use Rattle.std.specs.Prelude.{max}
use Rattle.std.proofs.lemmas.Bool.{and_from, and_parts}
use Rattle.std.specs.Borrow.{Bor}
use Rattle.fm_sexp.specs.Items.{all_within, spans_within}
use Rattle.fm_sexp.specs.declared.items.Sexp.{Sexp}
use Rattle.fm_script.specs.Within.{parameters_within}
use Rattle.fm_script.specs.declared.command.Part.{Part}
use Rattle.fm_terms.specs.Elaborate.{deepest_of, items_in, nesting, nesting_all}
use Rattle.fm_terms.specs.Scoped.{shown_pairs}

deepest_item : {X : Type 0} (f : X → ℕ) (xs : List X) (i : ℕ) (d : X) → i < length xs → f (get_or xs i d) ≤ deepest_of (map f xs)
deepest_item f [] i d lt = absurd (omega arith)
deepest_item f (x ∷ xs) zero d lt = let h : f x ≤ max (f x) (deepest_of (map f xs)) = omega arith in h
deepest_item f (x ∷ xs) (suc i) d lt =
    let h : f (get_or xs i d) ≤ deepest_of (map f xs) = deepest_item f xs i d (omega arith) in
    let k : f (get_or xs i d) ≤ max (f x) (deepest_of (map f xs)) = omega arith in
    k

pub item_nests : {X : Type 0} (f : X → ℕ) (xs : List X) (i : ℕ) (x : X) → i < length xs → x ≡ get_or xs i x → f x ≤ deepest_of (map f xs)
item_nests f xs i x lt e = subst (λ y. f y ≤ deepest_of (map f xs)) (sym e) (deepest_item f xs i x lt)

pub lent_nests : (xs : List (Bor Sexp)) (i : ℕ) (x : Bor Sexp) → i < length xs → x ≡ get_or xs i x → nesting x.now ≤ nesting_all (map (λ (b : Bor Sexp). b.now) xs)
lent_nests xs i x lt e = subst (λ (ys : List ℕ). nesting x.now ≤ deepest_of ys) (lent_map xs) (item_nests (λ (b : Bor Sexp). nesting b.now) xs i x lt e) where
  lent_map : (xs : List (Bor Sexp)) → map (λ (b : Bor Sexp). nesting b.now) xs ≡ map nesting (map (λ (b : Bor Sexp). b.now) xs)
  lent_map [] = refl
  lent_map (x ∷ xs) = ap (λ (l : List ℕ). nesting x.now ∷ l) (lent_map xs)

pub nests_push : (ps : List (Part × Bor Sexp)) (p : Part × Bor Sexp) (n : ℕ) → nesting_all (items_in (shown_pairs ps)) ≤ n → nesting p.1.now ≤ n → nesting_all (items_in (shown_pairs (ps ++ p ∷ []))) ≤ n
nests_push [] p n h k = let m : max (nesting p.1.now) 0 ≤ n = omega (arith, k) in m
nests_push (q ∷ ps) p n h k =
    let a : nesting q.1.now ≤ n = omega (arith, h) in
    let b : nesting_all (items_in (shown_pairs ps)) ≤ n = omega (arith, h) in
    let r : nesting_all (items_in (shown_pairs (ps ++ p ∷ []))) ≤ n = nests_push ps p n b k in
    let m : max (nesting q.1.now) (nesting_all (items_in (shown_pairs (ps ++ p ∷ [])))) ≤ n = omega (arith, a, r) in
    m

pub within_push : (n : ℕ) (ps : List (Part × Bor Sexp)) (p : Part × Bor Sexp) → all_within n (items_in (shown_pairs ps)) ≡ true → spans_within n p.1.now ≡ true → all_within n (items_in (shown_pairs (ps ++ p ∷ []))) ≡ true
within_push n [] p h k = and_from (spans_within n p.1.now) true k refl
within_push n (q ∷ ps) p h k =
    let parts = and_parts (spans_within n q.1.now) (all_within n (items_in (shown_pairs ps))) h in
    and_from (spans_within n q.1.now) (all_within n (items_in (shown_pairs (ps ++ p ∷ [])))) parts.0 (within_push n ps p parts.1 k)

pub parameters_are_within : (n : ℕ) (ps : List (Part × Bor Sexp)) → parameters_within n (shown_pairs ps) ≡ true → all_within n (items_in (shown_pairs ps)) ≡ true
parameters_are_within n [] h = refl
parameters_are_within n (p ∷ ps) h =
    let parts = and_parts (spans_within n p.1.now) (parameters_within n (shown_pairs ps)) h in
    and_from (spans_within n p.1.now) (all_within n (items_in (shown_pairs ps))) parts.0 (parameters_are_within n ps parts.1)

pub shown_length : (ps : List (Part × Bor Sexp)) → length (shown_pairs ps) ≡ length ps
shown_length [] = refl
shown_length (p ∷ ps) = ap suc (shown_length ps)
