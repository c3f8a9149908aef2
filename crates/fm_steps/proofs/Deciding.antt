-- What is offered to be decided has no value, and what is offered to be split isn't known.
use Rattle.std.proofs.Common.{◌≡◌, ℕ, ◌⊎◌, Bool, true, false, ◌&&◌, cond, List, [], ◌∷◌, ◌++◌, length, slice_get, Some, None, inl, inr, refl, subst, arith}
use Rattle.std.specs.Prelude.{Option}
use Rattle.std.specs.List.{flat_map, range_with_len}
use Rattle.std.proofs.lemmas.Bool.{and_parts, true≢false}
use Rattle.fm_base.specs.Resolution.{Has}
use Rattle.fm_bank.specs.Instances.{equality}
use Rattle.fm_bank.specs.Interning.{find_atom}
use Rattle.fm_bank.specs.declared.atom.Atom.{Atom}
use Rattle.fm_bank.specs.declared.literal.Literal.{Literal}
use Rattle.fm_steps.specs.Content.{is_size}
use Rattle.fm_steps.specs.Lemmas.{is_known, is_some_number}
use Rattle.fm_steps.specs.Menu.{both_ways, bounded_decisions, clause_atoms, decisions_of, free_decision, free_decisions, is_wanted, menu_of, or_else, pair_offers, size_decision, size_decisions, split_decisions, split_offers, splits_of}
use Rattle.fm_steps.specs.Picks.{Known}
use Rattle.fm_steps.specs.Ready.{DecideIsReady, SplitIsReady}
use Rattle.fm_steps.specs.Rows.{Offer}
use Rattle.fm_steps.specs.Sizes.{card, is_unvalued, least_open, lit}
use Rattle.fm_steps.specs.State.{Pick, Problem, State}
use Rattle.fm_steps.proofs.Lists.{Has-append}
use Rattle.fm_steps.proofs.Menus.{at_five}

abbrev Fits : State → Offer → Type 0
Fits s (Offer.Decide l) = is_unvalued s l.atom ≡ true
Fits s (Offer.Split a b) = (s.free ≡ false) × (is_known s (equality a b) ≡ false)
Fits s o = Unit {0}

abbrev AllFit : State → List Offer → Type 0
AllFit s xs = (o : Offer) → Has xs o → Fits s o

module _ (s : State) where
  none : AllFit s []
  none o h = absurd h

  one : (x : Offer) → Fits s x → AllFit s (x ∷ [])
  one x q o (inl e) = subst (Fits s) e q
  one x q o (inr h) = absurd h

  joined : (xs ys : List Offer) → AllFit s xs → AllFit s ys → AllFit s (xs ++ ys)
  joined xs ys a b o h = elim (Has-append xs ys o h) [ inl q ↦ a o q | inr q ↦ b o q ]

  when : (c : Bool) (xs ys : List Offer) → (c ≡ true → AllFit s xs) → (c ≡ false → AllFit s ys) → AllFit s (cond c xs ys)
  when true xs ys a b = a refl
  when false xs ys a b = b refl

  mapped : {X : Type 0} (f : X → List Offer) (xs : List X) → ((x : X) → AllFit s (f x)) → AllFit s (flat_map f xs)
  mapped f [] h = none
  mapped f (x ∷ xs) h = joined (f x) (flat_map f xs) (h x) (mapped f xs h)

  first_of : (xs ys : List Offer) → AllFit s xs → AllFit s ys → AllFit s (or_else xs ys)
  first_of [] ys a b = b
  first_of (x ∷ xs) ys a b = a

  decide : (l : Literal) → is_unvalued s l.atom ≡ true → AllFit s (Offer.Decide l ∷ [])
  decide l u = one (Offer.Decide l) u

  decide_two : (k l : Literal) → is_unvalued s k.atom ≡ true → is_unvalued s l.atom ≡ true → AllFit s (Offer.Decide k ∷ (Offer.Decide l ∷ []))
  decide_two k l u v = joined (Offer.Decide k ∷ []) (Offer.Decide l ∷ []) (decide k u) (decide l v)

  both : (n : ℕ) (o : Option Atom) → AllFit s (both_ways s n o)
  both n None = none
  both n (Some a) = when (is_unvalued s a && is_wanted s n) _ [] (λ e. let u = (and_parts (is_unvalued s a) (is_wanted s n) e).0 in decide_two (lit false a) (lit true a) u u) (λ e. none)

  atoms : AllFit s (clause_atoms s)
  atoms = mapped (λ n. both_ways s n (slice_get s.held.atoms n)) (range_with_len 0 (length s.held.atoms)) (λ n. both n (slice_get s.held.atoms n))

  sizes : AllFit s (size_decisions s)
  sizes = mapped (size_decision s) (range_with_len 0 s.held.sig.sorts) (λ u. when (is_unvalued s (card u (least_open s u))) _ [] (λ e. decide (lit true (card u (least_open s u))) e) (λ e. none))

  frees : AllFit s (free_decisions s)
  frees = mapped (free_decision s) s.held.atoms (λ a. when (is_size a && is_unvalued s a) _ [] (λ e. decide (lit false a) (and_parts (is_size a) (is_unvalued s a) e).1) (λ e. none))

  decisions : AllFit s (decisions_of s)
  decisions = when s.free (or_else (free_decisions s) (clause_atoms s)) (bounded_decisions s)
      (λ e. first_of (free_decisions s) (clause_atoms s) frees atoms)
      (λ e. when (is_unvalued s (Atom.Bound s.bound)) (Offer.Decide (lit true (Atom.Bound s.bound)) ∷ []) (or_else (size_decisions s) (clause_atoms s)) (λ u. decide (lit true (Atom.Bound s.bound)) u) (λ u. first_of (size_decisions s) (clause_atoms s) sizes atoms))

  pair : s.free ≡ false → (o : Option (ℕ × ℕ)) → AllFit s (pair_offers s o)
  pair f None = none
  pair f (Some p) = when (is_known s (equality p.0 p.1)) (split_decisions s (equality p.0 p.1)) (Offer.Split p.0 p.1 ∷ [])
      (λ e. when (is_unvalued s (equality p.0 p.1)) _ [] (λ u. decide_two (lit true (equality p.0 p.1)) (lit false (equality p.0 p.1)) u u) (λ u. none))
      (λ e. one (Offer.Split p.0 p.1) (f, e))

  split : s.free ≡ false → (o : Option Pick) → AllFit s (split_offers s o)
  split f None = none
  split f (Some pick) = pair f pick.pair

  splits : AllFit s (splits_of s)
  splits = when s.free [] (flat_map (split_offers s) s.picks) (λ e. none) (λ f. mapped (split_offers s) s.picks (split f))

  fits : (o : Offer) → Has (decisions_of s) o ⊎ Has (splits_of s) o → Fits s o
  fits o (inl q) = decisions o q
  fits o (inr q) = splits o q

pub decide_ready : DecideIsReady
decide_ready l p s k h = fits s (Offer.Decide l) (at_five p s k (Offer.Decide l) (omega arith) (omega arith) h)

not_found : (o : Option ℕ) → is_some_number o ≡ false → o ≡ None
not_found None h = refl
not_found (Some n) h = absurd (true≢false h)

pub split_ready : SplitIsReady
split_ready a b p s k h =
    let f = fits s (Offer.Split a b) (at_five p s k (Offer.Split a b) (omega arith) (omega arith) h) in
    (f.0, not_found (find_atom s.held.atoms (equality a b)) f.1)

-- and it is offered by a test
abbrev IsDecision : Offer → Type 0
IsDecision (Offer.Decide l) = Unit {0}
IsDecision o = ⊥

abbrev AreDecisions : List Offer → Type 0
AreDecisions xs = (o : Offer) → Has xs o → IsDecision o

one_decides : (l : Literal) → AreDecisions (Offer.Decide l ∷ [])
one_decides l o (inl e) = subst IsDecision e tt
one_decides l o (inr h) = absurd h

two_decide : (k l : Literal) → AreDecisions (Offer.Decide k ∷ (Offer.Decide l ∷ []))
two_decide k l o (inl e) = subst IsDecision e tt
two_decide k l o (inr h) = one_decides l o h

either_decide : (c : Bool) (xs ys : List Offer) → AreDecisions xs → AreDecisions ys → AreDecisions (cond c xs ys)
either_decide true xs ys h g = h
either_decide false xs ys h g = g

none_decide : AreDecisions []
none_decide o h = absurd h

flat_decide : {X : Type 0} (f : X → List Offer) (xs : List X) → ((x : X) → AreDecisions (f x)) → AreDecisions (flat_map f xs)
flat_decide f [] h o q = absurd q
flat_decide f (x ∷ xs) h o q = elim (Has-append (f x) (flat_map f xs) o q) [ inl a ↦ h x o a | inr b ↦ flat_decide f xs h o b ]

else_decide : (xs ys : List Offer) → AreDecisions xs → AreDecisions ys → AreDecisions (or_else xs ys)
else_decide [] ys h g = g
else_decide (x ∷ xs) ys h g = h

both_decide : (s : State) (n : ℕ) (o : Option Atom) → AreDecisions (both_ways s n o)
both_decide s n None = none_decide
both_decide s n (Some a) = either_decide (is_unvalued s a && is_wanted s n) _ [] (two_decide (lit false a) (lit true a)) none_decide

all_decide : (s : State) → AreDecisions (decisions_of s)
all_decide s =
    let atoms = flat_decide (λ n. both_ways s n (slice_get s.held.atoms n)) (range_with_len 0 (length s.held.atoms)) (λ n. both_decide s n (slice_get s.held.atoms n)) in
    let sizes = flat_decide (size_decision s) (range_with_len 0 s.held.sig.sorts) (λ u. either_decide (is_unvalued s (card u (least_open s u))) _ [] (one_decides (lit true (card u (least_open s u)))) none_decide) in
    let frees = flat_decide (free_decision s) s.held.atoms (λ a. either_decide (is_size a && is_unvalued s a) _ [] (one_decides (lit false a)) none_decide) in
    either_decide s.free (or_else (free_decisions s) (clause_atoms s)) (bounded_decisions s) (else_decide (free_decisions s) (clause_atoms s) frees atoms)
    (either_decide (is_unvalued s (Atom.Bound s.bound)) _ (or_else (size_decisions s) (clause_atoms s)) (one_decides (lit true (Atom.Bound s.bound))) (else_decide (size_decisions s) (clause_atoms s) sizes atoms))

pub split_in : (p : Problem) (s : State) (k : Known) (a b : ℕ) → Has (menu_of p s k) (Offer.Split a b) → Has (splits_of s) (Offer.Split a b)
split_in p s k a b h =
    elim (at_five p s k (Offer.Split a b) (omega arith) (omega arith) h) [
      | inl q ↦ absurd (all_decide s (Offer.Split a b) q)
      | inr q ↦ q
    ]
