-- Along a ring, each member gets the number in turn.
use Rattle.std.proofs.Common.{◌≡◌, ℕ, zero, suc, ◌+◌, ◌<◌, ◌≤◌, true, cond, List, [], ◌∷◌, ◌++◌, length, take, drop, Some, inl, inr, sym, subst, ap, ◌∙◌, arith, get_or, get_or-set_same, get_or-set_other}
use Rattle.std.specs.Prelude.{◌==◌, slice_get, slice_set}
use Rattle.std.proofs.lemmas.Bool.{cases_Bool, eq-eqb, false≢true, or_left, or_right}
use Rattle.std.proofs.lemmas.Bool.Decides.{eqb_tells}
use Rattle.std.proofs.lemmas.List.{get_or_past, take_more}
use Rattle.std.proofs.lemmas.Option.{get_or_from_slice_get}
use Rattle.fm_cells.specs.Members.{is_on}
use Rattle.fm_cells.specs.Rings.{HasRing, IsChain, alone, own_or, relabelled, root_or}
use Rattle.fm_cells.specs.declared.rings.Root.{Root}
use Rattle.fm_cells.proofs.Members.{on_cases, on_left, on_one, on_right, one_on}
use Rattle.std.proofs.Math.Seq.{drop-cons}
use Rattle.std.proofs.lemmas.Map.Steps.{length-le_from_distinct_below}
use Rattle.std.proofs.lemmas.Bool.{cases_lt, false_from_ne_true, ne_eqb}

pub ring_next : (next : ℕ → ℕ) (at : ℕ) (nodes : List ℕ) (i y : ℕ) → i < length nodes → IsChain next at (drop i nodes) y → (at ≡ get_or nodes i 0) × IsChain next (next at) (drop (i + 1) nodes) y
ring_next next at nodes i y lt h =
    let k = subst (λ (xs : List ℕ). IsChain next at xs y) (drop-cons nodes i 0 lt) h in
    let one : suc i ≡ i + 1 = omega arith in
    (k.0, subst (λ (n : ℕ). IsChain next (next at) (drop n nodes) y) one (subst (λ (z : ℕ). IsChain next (next z) (drop (suc i) nodes) y) (sym k.0) k.1))

on_push_other : (xs : List ℕ) (c x : ℕ) → (x ≡ c → ⊥) → is_on (xs ++ c ∷ []) x ≡ is_on xs x
on_push_other xs c x ne =
    elim (cases_Bool (is_on xs x)) [
      | inl t ↦ on_left xs (c ∷ []) x t ∙ sym t
      | inr f ↦ false_from_ne_true (is_on (xs ++ c ∷ []) x) (λ h. elim (on_cases xs (c ∷ []) x h) [ inl a ↦ false≢true (sym f ∙ a) | inr b ↦ ne (on_one c x b) ]) ∙ sym f
    ]

set_here : (cells : List ℕ) (at to x : ℕ) → at < length cells → x ≡ at → own_or (slice_set cells at to) x ≡ to
set_here cells at to x lt e = ap (own_or (slice_set cells at to)) e ∙ get_or-set_same cells at to at lt

pub relabel_more : (old cells nodes : List ℕ) (i at to : ℕ) → i < length nodes → at < length cells → at ≡ get_or nodes i 0 → ((x : ℕ) → own_or cells x ≡ cond (is_on (take i nodes) x) to (own_or old x)) → (x : ℕ) → own_or (slice_set cells at to) x ≡ cond (is_on (take (i + 1) nodes) x) to (own_or old x)
relabel_more old cells nodes i at to lt in' e h x =
    let grown : take (i + 1) nodes ≡ take i nodes ++ at ∷ [] = take_more nodes i 0 lt ∙ ap (λ c. take i nodes ++ c ∷ []) (sym e) in
    elim (eqb_tells x at) [
      | inl same ↦
          let on : is_on (take (i + 1) nodes) x ≡ true = ap (λ xs. is_on xs x) grown ∙ on_right (take i nodes) (at ∷ []) x (ap (is_on (at ∷ [])) same.1 ∙ one_on at) in
          set_here cells at to x in' same.1 ∙ ap (λ b. cond b to (own_or old x)) (sym on)
      | inr other ↦
          let on : is_on (take (i + 1) nodes) x ≡ is_on (take i nodes) x = ap (λ xs. is_on xs x) grown ∙ on_push_other (take i nodes) at x other.1 in
          get_or-set_other cells at x to x other.1 ∙ (h x ∙ ap (λ b. cond b to (own_or old x)) (sym on))
    ]

pub own_at : (cells : List ℕ) (i v : ℕ) → slice_get cells i ≡ Some v → own_or cells i ≡ v
own_at cells i v h = get_or_from_slice_get cells i v i h

pub root_at : (cells : List Root) (i : ℕ) (v : Root) → slice_get cells i ≡ Some v → root_or cells i ≡ v
root_at cells i v h = get_or_from_slice_get cells i v (alone i) h

pub root_size : (cells : List Root) (i : ℕ) (v : Root) → slice_get cells i ≡ Some v → (root_or cells i).size ≡ v.size
root_size cells i v h = ap (λ (z : Root). z.size) (root_at cells i v h)

pub in_ring : (nodes : List ℕ) (i at : ℕ) → i < length nodes → at ≡ get_or nodes i 0 → is_on nodes at ≡ true
in_ring [] i at lt e = absurd (omega (arith, lt))
in_ring (n ∷ nodes) zero at lt e = or_left (at == n) (is_on nodes at) (eq-eqb at n e)
in_ring (n ∷ nodes) (suc i) at lt e = or_right (at == n) (is_on nodes at) (in_ring nodes i at (omega (arith, lt)) e)

-- the members of a ring are those of its class
module _ (next class : ℕ → ℕ) (roots : ℕ → Root) (from to : ℕ) (h : HasRing next class roots from) where
  pub ring_of : IsChain next from (from ∷ h.others) from
  ring_of = h.ring

  pub in_class : (x : ℕ) → cond (is_on (from ∷ h.others) x) to (class x) ≡ relabelled from to (class x)
  in_class x =
      elim (cases_Bool (is_on (from ∷ h.others) x)) [
        | inl on ↦ ap (λ b. cond b to (class x)) on ∙ ap (λ b. cond b to (class x)) (sym (eq-eqb (class x) from ((h.members x).0 on)))
        | inr off ↦ ap (λ b. cond b to (class x)) off ∙ ap (λ b. cond b to (class x)) (sym (ne_eqb (class x) from (λ e. false≢true (sym off ∙ (h.members x).1 e))))
      ]

-- a member of a class whose number is a cell's is a cell
pub member_below : (cells : List ℕ) (from x : ℕ) → from < length cells → own_or cells x ≡ from → x < length cells
member_below cells from x lt e =
    elim (cases_lt x (length cells)) [
      | inl l ↦ l
      | inr past ↦ let own : own_or cells x ≡ x = get_or_past cells x x past in omega (arith, lt, past, own, e)
    ]

pub record IsTurn (nexts cells : List ℕ) (nodes : List ℕ) (i at end : ℕ) : Type 0 where
  pub at_is : at ≡ get_or nodes i 0
  pub below : at < length cells
  pub onward : IsChain (own_or nexts) (own_or nexts at) (drop (i + 1) nodes) end

-- each member of a ring in turn
pub ring_turn : (nexts cells : List ℕ) (sizes : List Root) (from at i : ℕ) (h : HasRing (own_or nexts) (own_or cells) (root_or sizes) from) → from < length cells → i < length (from ∷ h.others) → IsChain (own_or nexts) at (drop i (from ∷ h.others)) from → IsTurn nexts cells (from ∷ h.others) i at from
ring_turn nexts cells sizes from at i h lt in' chain =
    let r = ring_next (own_or nexts) at (from ∷ h.others) i from in' chain in
    record { at_is = r.0; below = member_below cells from at lt ((h.members at).0 (in_ring (from ∷ h.others) i at in' r.0)); onward = r.1 }

-- a class isn't larger than there are cells
pub size_fits : (nexts cells : List ℕ) (sizes : List Root) (r : ℕ) → HasRing (own_or nexts) (own_or cells) (root_or sizes) r → r < length cells → (root_or sizes r).size ≤ length cells
size_fits nexts cells sizes r h lt =
    let few = length-le_from_distinct_below (r ∷ h.others) (length cells) h.distinct (λ q on. member_below cells r q lt ((h.members q).0 on)) in
    omega (arith, few, h.size_is)
