-- What the menu offers decides no size literal positively in the free phase.
use Rattle.std.proofs.Common.{◌≡◌, ℕ, ◌+◌, ◌⊎◌, ◌==◌, Bool, true, false, not, ◌&&◌, cond, nat_lt, List, [], ◌∷◌, ◌++◌, length, take, slice_get, Some, None, inl, inr, refl, sym, ap, subst, ◌∙◌}
use Rattle.std.specs.Prelude.{Option}
use Rattle.std.specs.List.{flat_map, range_with_len}
use Rattle.std.proofs.lemmas.Bool.{and_from, and_parts, false≢true}
use Rattle.fm_base.specs.Resolution.{Has}
use Rattle.fm_base.specs.declared.ids.Lit.{Lit}
use Rattle.fm_base.specs.declared.ids.Reader.{Reader}
use Rattle.fm_bank.specs.declared.atom.Atom.{Atom}
use Rattle.fm_bank.specs.declared.literal.Literal.{Literal}
use Rattle.fm_guide.specs.declared.event.Event.{Event}
use Rattle.fm_guide.specs.declared.event.Word.{Word}
use Rattle.fm_trail.specs.declared.entry.Entry.{Entry}
use Rattle.fm_trail.specs.Trail.{are_false, head_of, unit_of}
use Rattle.fm_steps.specs.Content.{decides, has_clash, is_size}
use Rattle.fm_steps.specs.Facts.{IsLawful, SizesAreAssumed}
use Rattle.fm_steps.specs.Lemmas.{Due, bound_order, bounds_from, card_order, is_known, is_sum_due, sum_literals}
use Rattle.fm_steps.specs.Menu.{bound_order_at, bound_orders, both_ways, by_open, card_order_at, card_orders, clause_atoms, clique_offer, clique_offer_of, cliques_from, conflict_at, conflicts_from, decisions_of, first_lemmas, free_decision, free_decisions, is_of_level_zero, is_wanted, lemmas_of, menu_of, offer_for, offers_of, open_literals, or_else, readers, splits_of, sum_offers_at, takes_of, turns_of, unit_at, units_from, values_at}
use Rattle.fm_steps.specs.Picks.{Known, clique_lemma, read_literals}
use Rattle.fm_steps.specs.Rows.{Offer}
use Rattle.fm_steps.specs.Runs.{Step, carried}
use Rattle.fm_steps.specs.Sizes.{card, is_refuted, is_unvalued, lit}
use Rattle.fm_steps.specs.State.{Budget, Clause, Pick, Problem, State}
use Rattle.fm_steps.proofs.Assumed.{DecidesFreely, move_assumed}
use Rattle.fm_steps.proofs.Lists.{Has-append, Has-get, Has-take, append_none, only_one}

-- not a decision
abbrev IsOther : Offer → Type 0
IsOther (Offer.Decide l) = ⊥
IsOther o = Unit {0}

abbrev AreOthers : List Offer → Type 0
AreOthers xs = (o : Offer) → Has xs o → IsOther o

none : AreOthers []
none o h = absurd h

one : (x : Offer) → IsOther x → AreOthers (x ∷ [])
one x q o (inl e) = subst IsOther e q
one x q o (inr h) = absurd h

joined : (xs ys : List Offer) → AreOthers xs → AreOthers ys → AreOthers (xs ++ ys)
joined xs ys a b o h = elim (Has-append xs ys o h) [ inl p ↦ a o p | inr p ↦ b o p ]

either : (c : Bool) (xs ys : List Offer) → AreOthers xs → AreOthers ys → AreOthers (cond c xs ys)
either true xs ys a b = a
either false xs ys a b = b

mapped : {X : Type 0} (f : X → List Offer) (xs : List X) → ((x : X) → AreOthers (f x)) → AreOthers (flat_map f xs)
mapped f [] h = none
mapped f (x ∷ xs) h = joined (f x) (flat_map f xs) (h x) (mapped f xs h)

front : (n : ℕ) (xs : List Offer) → AreOthers xs → AreOthers (take n xs)
front n xs h o q = h o (Has-take n xs o q)

conflict : (b : Bool) (n : ℕ) → IsOther (cond b (Offer.Answer Word.Unsat) (Offer.Learn n))
conflict true n = tt
conflict false n = tt

conflicts : (n : ℕ) (es : List Entry) (cs : List Clause) → AreOthers (conflicts_from n es cs)
conflicts n es [] = none
conflicts n es (c ∷ cs) = either (are_false es c) (conflict_at n es c ∷ []) (conflicts_from (n + 1) es cs) (one (conflict_at n es c) (conflict (is_of_level_zero es c) n)) (conflicts (n + 1) es cs)

unit : (n : ℕ) (o : Option Lit) → AreOthers (unit_at n o)
unit n None = none
unit n (Some l) = one (Offer.Unit' n) tt

units : (n : ℕ) (es : List Entry) (cs : List Clause) → AreOthers (units_from n es cs)
units n es [] = none
units n es (c ∷ cs) = joined (unit_at n (unit_of es c)) (units_from (n + 1) es cs) (unit n (unit_of es c)) (units (n + 1) es cs)

takes : (s : State) → AreOthers (takes_of s)
takes s = mapped _ readers (λ r. either (nat_lt (head_of s.trail.heads r) (length s.trail.entries)) (Offer.Take r ∷ []) [] (one (Offer.Take r) tt) none)

opened : (s : State) (r : Reader) (d : Due) (ls : List Literal) → AreOthers (by_open s r d ls)
opened s r d [] = one (Offer.Lemma r d) tt
opened s r d (l ∷ []) = either (is_unvalued s l.atom) (Offer.Imply r d ∷ []) [] (one (Offer.Imply r d) tt) none
opened s r d (l ∷ (k ∷ ks)) = none

offered : (s : State) (r : Reader) (d : Due) (ls : List Literal) → AreOthers (offer_for s r d ls)
offered s r d ls = opened s r d (open_literals s ls)

value : (s : State) (k : Known) (a : Atom) → AreOthers (values_at s k a)
value s k a = either (is_unvalued s a && decides k.congruence a true) _ _ (one (Offer.Imply Reader.Congruence (Due.Value a true)) tt) (either (is_unvalued s a && decides k.congruence a false) _ _ (one (Offer.Imply Reader.Congruence (Due.Value a false)) tt) none)

clique_of : (s : State) (u : ℕ) (terms : List ℕ) (pair : Option (ℕ × ℕ)) → AreOthers (clique_offer_of s u terms pair)
clique_of s u terms None = offered s Reader.Regions (Due.Clique u) (clique_lemma u terms)
clique_of s u terms (Some p) = none

clique : (s : State) (u : ℕ) (p : Option Pick) → AreOthers (clique_offer s u p)
clique s u None = none
clique s u (Some pick) = clique_of s u pick.terms pick.pair

cliques : (s : State) (u : ℕ) (ps : List (Option Pick)) → AreOthers (cliques_from s u ps)
cliques s u [] = none
cliques s u (p ∷ ps) = joined (clique_offer s u p) (cliques_from s (u + 1) ps) (clique s u p) (cliques s (u + 1) ps)

sums : (s : State) (ks : Option (List ℕ)) → AreOthers (sum_offers_at s ks)
sums s None = none
sums s (Some ks) = either (is_sum_due s (Some ks)) _ _ (offered s Reader.Sum Due.SumBound (sum_literals s 0 ks)) none

card_at : (s : State) (u j : ℕ) → AreOthers (card_order_at s u j)
card_at s u j = either (is_known s (card u j) && is_known s (card u (j + 1))) (offer_for s Reader.Sum (Due.CardOrder u j) (card_order u j)) [] (offered s Reader.Sum (Due.CardOrder u j) (card_order u j)) none

cards : (s : State) → AreOthers (card_orders s)
cards s = mapped _ (range_with_len 0 s.held.sig.sorts) (λ u. mapped (card_order_at s u) (range_with_len 0 (length s.held.atoms)) (card_at s u))

bound_at : (s : State) (n : ℕ) → AreOthers (bound_order_at s n)
bound_at s n = either (is_known s (Atom.Bound n) && is_known s (Atom.Bound (n + 1))) (offer_for s Reader.Sum (Due.BoundOrder n) (bound_order n)) [] (offered s Reader.Sum (Due.BoundOrder n) (bound_order n)) none

bounds : (s : State) → AreOthers (bound_orders s)
bounds s = mapped (bound_order_at s) (range_with_len 0 s.bound) (bound_at s)

lemmas : (s : State) (k : Known) (r : Reader) → AreOthers (lemmas_of s k r)
lemmas s k Reader.Congruence = joined (cond (has_clash (read_literals Reader.Congruence s) k.congruence) (Offer.Lemma Reader.Congruence Due.Clash ∷ []) []) _ (either (has_clash (read_literals Reader.Congruence s) k.congruence) _ _ (one (Offer.Lemma Reader.Congruence Due.Clash) tt) none) (mapped (values_at s k) s.held.atoms (value s k))
lemmas s k Reader.Regions = cliques s 0 s.picks
lemmas s k Reader.Sum = joined (sum_offers_at s (bounds_from s 0 s.held.sig.sorts)) _ (sums s (bounds_from s 0 s.held.sig.sorts)) (joined (card_orders s) (bound_orders s) (cards s) (bounds s))
lemmas s k Reader.Instances = none

firsts : (s : State) (k : Known) → AreOthers (first_lemmas s k)
firsts s k = mapped (λ r. take 1 (lemmas_of s k r)) readers (λ r. front 1 (lemmas_of s k r) (lemmas s k r))

turns : (s : State) → AreOthers (turns_of s)
turns s = either (not s.free && is_refuted s (Atom.Bound s.bound)) _ _ (one Offer.Turn tt) none

else_cases : (xs ys : List Offer) (o : Offer) → Has (or_else xs ys) o → Has xs o ⊎ ((xs ≡ []) × Has ys o)
else_cases [] ys o h = inr (refl, h)
else_cases (x ∷ xs) ys o h = inl h

-- a group without decisions is passed over
skip : (xs ys : List Offer) (l : Literal) → AreOthers xs → Has (or_else xs ys) (Offer.Decide l) → Has ys (Offer.Decide l)
skip xs ys l a h = elim (else_cases xs ys (Offer.Decide l) h) [ inl p ↦ absurd (a (Offer.Decide l) p) | inr p ↦ p.1 ]

-- the decisions of the free phase
decided_same : (k l : Literal) → Offer.Decide k ≡ Offer.Decide l → k ≡ l
decided_same k l e = cc e

own : (k l : Literal) → Has (Offer.Decide k ∷ []) (Offer.Decide l) → k ≡ l
own k l h = decided_same k l (only_one (Offer.Decide k) (Offer.Decide l) h)

negative_step : (b : Bool) (a : Atom) (l : Literal) → Has (cond b (Offer.Decide (lit false a) ∷ []) []) (Offer.Decide l) → l.positive ≡ false
negative_step true a l h = sym (ap (λ (x : Literal). x.positive) (own (lit false a) l h))
negative_step false a l h = absurd h

negatives : (s : State) (atoms : List Atom) (l : Literal) → Has (flat_map (free_decision s) atoms) (Offer.Decide l) → l.positive ≡ false
negatives s [] l h = absurd h
negatives s (a ∷ atoms) l h = elim (Has-append (free_decision s a) _ (Offer.Decide l) h) [ inl p ↦ negative_step (is_size a && is_unvalued s a) a l p | inr p ↦ negatives s atoms l p ]

empty_step : (b : Bool) (x : Offer) → cond b (x ∷ []) [] ≡ [] → b ≡ false
empty_step true x h = absurd (cc h)
empty_step false x h = refl

pub no_open_size : (s : State) (atoms : List Atom) (a : Atom) → flat_map (free_decision s) atoms ≡ [] → Has atoms a → (is_size a && is_unvalued s a) ≡ false
no_open_size s [] a e h = absurd h
no_open_size s (b ∷ atoms) a e (inl q) = ap (λ (x : Atom). is_size x && is_unvalued s x) (sym q) ∙ empty_step (is_size b && is_unvalued s b) (Offer.Decide (lit false b)) (append_none (free_decision s b) (flat_map (free_decision s) atoms) e).0
no_open_size s (b ∷ atoms) a e (inr h) = no_open_size s atoms a (append_none (free_decision s b) (flat_map (free_decision s) atoms) e).1 h

both_step : (c : Bool) (a : Atom) (l : Literal) → Has (cond c (Offer.Decide (lit false a) ∷ (Offer.Decide (lit true a) ∷ [])) []) (Offer.Decide l) → (c ≡ true) × (l.atom ≡ a)
both_step true a l (inl e) = (refl, sym (ap (λ (x : Literal). x.atom) (decided_same (lit false a) l e)))
both_step true a l (inr h) = (refl, sym (ap (λ (x : Literal). x.atom) (own (lit true a) l h)))
both_step false a l h = absurd h

at_number : (s : State) (n : ℕ) (o : Option Atom) (l : Literal) → slice_get s.held.atoms n ≡ o → Has (both_ways s n o) (Offer.Decide l) → Has s.held.atoms l.atom × (is_unvalued s l.atom ≡ true)
at_number s n None l e h = absurd h
at_number s n (Some a) l e h =
    let q = both_step (is_unvalued s a && is_wanted s n) a l h in
    let u = (and_parts (is_unvalued s a) (is_wanted s n) q.0).0 in
    (subst (λ (x : Atom). Has s.held.atoms x) (sym q.1) (Has-get s.held.atoms n a e), ap (is_unvalued s) q.1 ∙ u)

among : (s : State) (ns : List ℕ) (l : Literal) → Has (flat_map (λ n. both_ways s n (slice_get s.held.atoms n)) ns) (Offer.Decide l) → Has s.held.atoms l.atom × (is_unvalued s l.atom ≡ true)
among s [] l h = absurd h
among s (n ∷ ns) l h = elim (Has-append (both_ways s n (slice_get s.held.atoms n)) _ (Offer.Decide l) h) [ inl p ↦ at_number s n (slice_get s.held.atoms n) l refl p | inr p ↦ among s ns l p ]

free_group : (s : State) (l : Literal) → Has (or_else (free_decisions s) (clause_atoms s)) (Offer.Decide l) → is_size l.atom ≡ true → l.positive ≡ true → ⊥
free_group s l h size pos =
    elim (else_cases (free_decisions s) (clause_atoms s) (Offer.Decide l) h) [
      | inl p ↦ absurd (false≢true (sym (negatives s s.held.atoms l p) ∙ pos))
      | inr p ↦ (let q = among s (range_with_len 0 (length s.held.atoms)) l p.1 in
          absurd (false≢true (sym (no_open_size s s.held.atoms l.atom p.0 q.0) ∙ and_from (is_size l.atom) (is_unvalued s l.atom) size q.1)))
    ]

in_phase : (b : Bool) (l : Literal) (xs ys : List Offer) → b ≡ true → Has (cond b xs ys) (Offer.Decide l) → Has xs (Offer.Decide l)
in_phase true l xs ys f h = h
in_phase false l xs ys f h = absurd (false≢true f)

last_group : (b : Bool) (x : Offer) (l : Literal) → b ≡ true → Has (cond b Offer.Raise x ∷ []) (Offer.Decide l) → ⊥
last_group true x l e h = absurd (one Offer.Raise tt (Offer.Decide l) h)
last_group false x l e h = absurd (false≢true e)

splits_none : (b : Bool) (xs : List Offer) → b ≡ true → AreOthers (cond b [] xs)
splits_none true xs e = none
splits_none false xs e = absurd (false≢true e)

decide_free : (p : Problem) (s : State) (k : Known) (l : Literal) → Has (offers_of p s k) (Offer.Decide l) → s.free ≡ true → is_size l.atom ≡ true → l.positive ≡ true → ⊥
decide_free p s k l h free size pos =
    let a = skip (conflicts_from 0 s.trail.entries s.clauses) _ l (conflicts 0 s.trail.entries s.clauses) h in
    let c = skip (units_from 0 s.trail.entries s.clauses ++ takes_of s) _ l (joined (units_from 0 s.trail.entries s.clauses) (takes_of s) (units 0 s.trail.entries s.clauses) (takes s)) a in
    let d = skip (first_lemmas s k) _ l (firsts s k) c in
    let e = skip (turns_of s) _ l (turns s) d in
    elim (else_cases (decisions_of s) _ (Offer.Decide l) e) [
      | inl q ↦ free_group s l (in_phase s.free l _ _ free q) size pos
      | inr q ↦ (let f = skip (splits_of s) _ l (splits_none s.free _ free) q.1 in last_group s.free _ l free f)
    ]

carried_step : (b : Bool) (s : State) (l : Literal) → (s.free ≡ true → is_size l.atom ≡ true → l.positive ≡ true → ⊥) → DecidesFreely s (cond b (Offer.Answer Word.Unknown) (Offer.Decide l))
carried_step true s l h = tt
carried_step false s l h = h

either_free : (b : Bool) (s : State) (x y : Offer) → DecidesFreely s x → DecidesFreely s y → DecidesFreely s (cond b x y)
either_free true s x y a c = a
either_free false s x y a c = c

-- what is carried out for an offer of the menu decides no size literal positively in the free phase
pub offered_freely : (p : Problem) (b : Budget) (s : State) (k : Known) (o : Offer) → Has (offers_of p s k) o → DecidesFreely s (carried b s o)
offered_freely p b s k (Offer.Decide l) h = carried_step (s.decisions == b.decisions) s l (decide_free p s k l h)
offered_freely p b s k (Offer.Instance i terms) h = either_free (s.instances == b.instances) s (Offer.Answer Word.Unknown) (Offer.Instance i terms) tt tt
offered_freely p b s k (Offer.Learn n) h = tt
offered_freely p b s k (Offer.Unit' n) h = tt
offered_freely p b s k (Offer.Take r) h = tt
offered_freely p b s k (Offer.Lemma r d) h = tt
offered_freely p b s k (Offer.Imply r d) h = tt
offered_freely p b s k Offer.Turn h = tt
offered_freely p b s k (Offer.Split a c) h = tt
offered_freely p b s k Offer.Raise h = tt
offered_freely p b s k (Offer.Answer w) h = tt

pub step_assumed : (p : Problem) (b : Budget) (s : State) (e : Event) (t : State) → IsLawful p s → SizesAreAssumed s → Step p b s e t → SizesAreAssumed t
step_assumed p b s e t w h step =
    let free = offered_freely p b s step.known step.offer (Has-take 64 (offers_of p s step.known) step.offer (Has-get (menu_of p s step.known) step.place step.offer step.there)) in
    move_assumed p b s step.known (carried b s step.offer) t free w.atoms w.trail w.guards h step.move
