-- The groups of the menu, by the kinds of their offers, and what an offer of it says of the state.
use Rattle.std.proofs.Common.{◌≡◌, ℕ, ◌+◌, ◌<◌, ◌≤◌, ◌⊎◌, Bool, true, false, not, ◌&&◌, cond, nat_lt, List, [], ◌∷◌, ◌++◌, length, take, slice_get, Some, None, inl, inr, refl, ap, subst, arith}
use Rattle.std.specs.Prelude.{Option}
use Rattle.std.specs.List.{flat_map, range_with_len}
use Rattle.fm_base.specs.Resolution.{Has}
use Rattle.fm_base.specs.declared.ids.Lit.{Lit}
use Rattle.fm_base.specs.declared.ids.Reader.{Reader}
use Rattle.fm_bank.specs.Instances.{equality}
use Rattle.fm_bank.specs.declared.atom.Atom.{Atom}
use Rattle.fm_bank.specs.declared.literal.Literal.{Literal}
use Rattle.fm_guide.specs.declared.event.Word.{Word}
use Rattle.fm_trail.specs.declared.entry.Entry.{Entry}
use Rattle.fm_trail.specs.Trail.{are_false, head_of, unit_of}
use Rattle.fm_steps.specs.Content.{decides, has_clash, is_size}
use Rattle.fm_steps.specs.Lemmas.{Due, bound_order, bounds_from, card_order, is_known, is_sum_due, sum_literals}
use Rattle.fm_steps.specs.Menu.{both_ways, bound_order_at, bound_orders, bounded_decisions, by_open, card_order_at, card_orders, clause_atoms, clique_offer, clique_offer_of, cliques_from, conflict_at, conflicts_from, decisions_of, failing_at, failing_offer, first_lemmas, free_decision, free_decisions, is_of_level_zero, is_wanted, last_offer, lemmas_of, menu_of, offer_for, offers_of, open_literals, or_else, pair_offers, readers, size_decision, size_decisions, split_decisions, split_offers, splits_of, sum_offers_at, takes_of, turns_of, unit_at, units_from, values_at}
use Rattle.fm_steps.specs.Picks.{Known, clique_lemma, read_literals}
use Rattle.fm_steps.specs.Rows.{Offer, content_at}
use Rattle.fm_steps.specs.Sizes.{card, is_refuted, is_unvalued, least_open, lit}
use Rattle.fm_steps.specs.State.{Clause, Pick, Problem, State}
use Rattle.fm_steps.proofs.Lists.{Has-append, Has-take, only_one}

-- the group of an offer; a decision may stand in the next one too
abbrev pub word_kind : Word → ℕ
word_kind Word.Sat = 7
word_kind Word.Unsat = 1
word_kind Word.Unknown = 8

abbrev pub kind : Offer → ℕ
kind (Offer.Learn n) = 1
kind (Offer.Unit' n) = 2
kind (Offer.Take r) = 2
kind (Offer.Lemma r d) = 3
kind (Offer.Imply r d) = 3
kind Offer.Turn = 4
kind (Offer.Decide l) = 5
kind (Offer.Split a b) = 6
kind (Offer.Instance i subst') = 7
kind Offer.Raise = 7
kind (Offer.Answer w) = word_kind w

abbrev Within : ℕ → ℕ → List Offer → Type 0
Within low high xs = (o : Offer) → Has xs o → (low ≤ kind o) × (kind o ≤ high)

module _ (low high : ℕ) where
  none : Within low high []
  none o h = absurd h

  one : (x : Offer) → low ≤ kind x → kind x ≤ high → Within low high (x ∷ [])
  one x a b o (inl e) = subst (λ (y : Offer). (low ≤ kind y) × (kind y ≤ high)) e (a, b)
  one x a b o (inr h) = absurd h

  joined : (xs ys : List Offer) → Within low high xs → Within low high ys → Within low high (xs ++ ys)
  joined xs ys a b o h = elim (Has-append xs ys o h) [ inl q ↦ a o q | inr q ↦ b o q ]

  either : (c : Bool) (xs ys : List Offer) → Within low high xs → Within low high ys → Within low high (cond c xs ys)
  either true xs ys a b = a
  either false xs ys a b = b

  mapped : {X : Type 0} (f : X → List Offer) (xs : List X) → ((x : X) → Within low high (f x)) → Within low high (flat_map f xs)
  mapped f [] h = none
  mapped f (x ∷ xs) h = joined (f x) (flat_map f xs) (h x) (mapped f xs h)

  front : (n : ℕ) (xs : List Offer) → Within low high xs → Within low high (take n xs)
  front n xs h o q = h o (Has-take n xs o q)

  first_of : (xs ys : List Offer) → Within low high xs → Within low high ys → Within low high (or_else xs ys)
  first_of [] ys a b = b
  first_of (x ∷ xs) ys a b = a

wider : (low low' high high' : ℕ) (xs : List Offer) → low' ≤ low → high ≤ high' → Within low high xs → Within low' high' xs
wider low low' high high' xs a b h o q = let r = h o q in let r0 = r.0 in let r1 = r.1 in (omega (arith, r0), omega (arith, r1))

-- 1
conflict_kind : (b : Bool) (n : ℕ) → kind (cond b (Offer.Answer Word.Unsat) (Offer.Learn n)) ≡ 1
conflict_kind true n = refl
conflict_kind false n = refl

conflicts : (n : ℕ) (es : List Entry) (cs : List Clause) → Within 1 1 (conflicts_from n es cs)
conflicts n es [] = none 1 1
conflicts n es (c ∷ cs) = let q = conflict_kind (is_of_level_zero es c) n in either 1 1 (are_false es c) (conflict_at n es c ∷ []) (conflicts_from (n + 1) es cs) (one 1 1 (conflict_at n es c) (omega (arith, q)) (omega (arith, q))) (conflicts (n + 1) es cs)

-- 2
unit : (n : ℕ) (o : Option Lit) → Within 2 2 (unit_at n o)
unit n None = none 2 2
unit n (Some l) = one 2 2 (Offer.Unit' n) (omega arith) (omega arith)

units : (n : ℕ) (es : List Entry) (cs : List Clause) → Within 2 2 (units_from n es cs)
units n es [] = none 2 2
units n es (c ∷ cs) = joined 2 2 (unit_at n (unit_of es c)) (units_from (n + 1) es cs) (unit n (unit_of es c)) (units (n + 1) es cs)

takes : (s : State) → Within 2 2 (takes_of s)
takes s = mapped 2 2 _ readers (λ r. either 2 2 (nat_lt (head_of s.trail.heads r) (length s.trail.entries)) (Offer.Take r ∷ []) [] (one 2 2 (Offer.Take r) (omega arith) (omega arith)) (none 2 2))

-- 3
lemma_one : (r : Reader) (d : Due) → Within 3 3 (Offer.Lemma r d ∷ [])
lemma_one r d = one 3 3 (Offer.Lemma r d) (omega arith) (omega arith)

imply_one : (r : Reader) (d : Due) → Within 3 3 (Offer.Imply r d ∷ [])
imply_one r d = one 3 3 (Offer.Imply r d) (omega arith) (omega arith)

opened : (s : State) (r : Reader) (d : Due) (ls : List Literal) → Within 3 3 (by_open s r d ls)
opened s r d [] = lemma_one r d
opened s r d (l ∷ []) = either 3 3 (is_unvalued s l.atom) (Offer.Imply r d ∷ []) [] (imply_one r d) (none 3 3)
opened s r d (l ∷ (k ∷ ks)) = none 3 3

offered : (s : State) (r : Reader) (d : Due) (ls : List Literal) → Within 3 3 (offer_for s r d ls)
offered s r d ls = opened s r d (open_literals s ls)

value : (s : State) (k : Known) (a : Atom) → Within 3 3 (values_at s k a)
value s k a = either 3 3 (is_unvalued s a && decides k.congruence a true) _ _ (imply_one Reader.Congruence (Due.Value a true)) (either 3 3 (is_unvalued s a && decides k.congruence a false) _ _ (imply_one Reader.Congruence (Due.Value a false)) (none 3 3))

clique_of : (s : State) (u : ℕ) (terms : List ℕ) (pair : Option (ℕ × ℕ)) → Within 3 3 (clique_offer_of s u terms pair)
clique_of s u terms None = offered s Reader.Regions (Due.Clique u) (clique_lemma u terms)
clique_of s u terms (Some p) = none 3 3

clique : (s : State) (u : ℕ) (p : Option Pick) → Within 3 3 (clique_offer s u p)
clique s u None = none 3 3
clique s u (Some pick) = clique_of s u pick.terms pick.pair

cliques : (s : State) (u : ℕ) (ps : List (Option Pick)) → Within 3 3 (cliques_from s u ps)
cliques s u [] = none 3 3
cliques s u (p ∷ ps) = joined 3 3 (clique_offer s u p) (cliques_from s (u + 1) ps) (clique s u p) (cliques s (u + 1) ps)

sums : (s : State) (ks : Option (List ℕ)) → Within 3 3 (sum_offers_at s ks)
sums s None = none 3 3
sums s (Some ks) = either 3 3 (is_sum_due s (Some ks)) (offer_for s Reader.Sum Due.SumBound (sum_literals s 0 ks)) [] (offered s Reader.Sum Due.SumBound (sum_literals s 0 ks)) (none 3 3)

card_at : (s : State) (u j : ℕ) → Within 3 3 (card_order_at s u j)
card_at s u j = either 3 3 (is_known s (card u j) && is_known s (card u (j + 1))) (offer_for s Reader.Sum (Due.CardOrder u j) (card_order u j)) [] (offered s Reader.Sum (Due.CardOrder u j) (card_order u j)) (none 3 3)

cards : (s : State) → Within 3 3 (card_orders s)
cards s = mapped 3 3 _ (range_with_len 0 s.held.sig.sorts) (λ u. mapped 3 3 (card_order_at s u) (range_with_len 0 (length s.held.atoms)) (card_at s u))

bound_at : (s : State) (n : ℕ) → Within 3 3 (bound_order_at s n)
bound_at s n = either 3 3 (is_known s (Atom.Bound n) && is_known s (Atom.Bound (n + 1))) (offer_for s Reader.Sum (Due.BoundOrder n) (bound_order n)) [] (offered s Reader.Sum (Due.BoundOrder n) (bound_order n)) (none 3 3)

bounds : (s : State) → Within 3 3 (bound_orders s)
bounds s = mapped 3 3 (bound_order_at s) (range_with_len 0 s.bound) (bound_at s)

lemmas : (s : State) (k : Known) (r : Reader) → Within 3 3 (lemmas_of s k r)
lemmas s k Reader.Congruence = joined 3 3 (cond (has_clash (read_literals Reader.Congruence s) k.congruence) (Offer.Lemma Reader.Congruence Due.Clash ∷ []) []) _ (either 3 3 (has_clash (read_literals Reader.Congruence s) k.congruence) _ _ (lemma_one Reader.Congruence Due.Clash) (none 3 3)) (mapped 3 3 (values_at s k) s.held.atoms (value s k))
lemmas s k Reader.Regions = cliques s 0 s.picks
lemmas s k Reader.Sum = joined 3 3 (sum_offers_at s (bounds_from s 0 s.held.sig.sorts)) _ (sums s (bounds_from s 0 s.held.sig.sorts)) (joined 3 3 (card_orders s) (bound_orders s) (cards s) (bounds s))
lemmas s k Reader.Instances = none 3 3

firsts : (s : State) (k : Known) → Within 3 3 (first_lemmas s k)
firsts s k = mapped 3 3 (λ r. take 1 (lemmas_of s k r)) readers (λ r. front 3 3 1 (lemmas_of s k r) (lemmas s k r))

-- 4
turns : (s : State) → Within 4 4 (turns_of s)
turns s = either 4 4 (not s.free && is_refuted s (Atom.Bound s.bound)) (Offer.Turn ∷ []) [] (one 4 4 Offer.Turn (omega arith) (omega arith)) (none 4 4)

-- 5 and 6
decide_one : (l : Literal) → Within 5 6 (Offer.Decide l ∷ [])
decide_one l = one 5 6 (Offer.Decide l) (omega arith) (omega arith)

decide_two : (k l : Literal) → Within 5 6 (Offer.Decide k ∷ (Offer.Decide l ∷ []))
decide_two k l = joined 5 6 (Offer.Decide k ∷ []) (Offer.Decide l ∷ []) (decide_one k) (decide_one l)

both : (s : State) (n : ℕ) (o : Option Atom) → Within 5 6 (both_ways s n o)
both s n None = none 5 6
both s n (Some a) = either 5 6 (is_unvalued s a && is_wanted s n) _ _ (decide_two (lit false a) (lit true a)) (none 5 6)

atoms : (s : State) → Within 5 6 (clause_atoms s)
atoms s = mapped 5 6 _ (range_with_len 0 (length s.held.atoms)) (λ n. both s n (slice_get s.held.atoms n))

sizes : (s : State) → Within 5 6 (size_decisions s)
sizes s = mapped 5 6 (size_decision s) (range_with_len 0 s.held.sig.sorts) (λ u. either 5 6 (is_unvalued s (card u (least_open s u))) _ _ (decide_one (lit true (card u (least_open s u)))) (none 5 6))

frees : (s : State) → Within 5 6 (free_decisions s)
frees s = mapped 5 6 (free_decision s) s.held.atoms (λ a. either 5 6 (is_size a && is_unvalued s a) _ _ (decide_one (lit false a)) (none 5 6))

decisions : (s : State) → Within 5 6 (decisions_of s)
decisions s = either 5 6 s.free (or_else (free_decisions s) (clause_atoms s)) (bounded_decisions s) (first_of 5 6 (free_decisions s) (clause_atoms s) (frees s) (atoms s)) (either 5 6 (is_unvalued s (Atom.Bound s.bound)) (Offer.Decide (lit true (Atom.Bound s.bound)) ∷ []) (or_else (size_decisions s) (clause_atoms s)) (decide_one (lit true (Atom.Bound s.bound))) (first_of 5 6 (size_decisions s) (clause_atoms s) (sizes s) (atoms s)))

pair : (s : State) (o : Option (ℕ × ℕ)) → Within 5 6 (pair_offers s o)
pair s None = none 5 6
pair s (Some p) = either 5 6 (is_known s (equality p.0 p.1)) (split_decisions s (equality p.0 p.1)) (Offer.Split p.0 p.1 ∷ []) (either 5 6 (is_unvalued s (equality p.0 p.1)) _ _ (decide_two (lit true (equality p.0 p.1)) (lit false (equality p.0 p.1))) (none 5 6)) (one 5 6 (Offer.Split p.0 p.1) (omega arith) (omega arith))

split : (s : State) (o : Option Pick) → Within 5 6 (split_offers s o)
split s None = none 5 6
split s (Some pick) = pair s pick.pair

splits : (s : State) → Within 5 6 (splits_of s)
splits s = either 5 6 s.free [] (flat_map (split_offers s) s.picks) (none 5 6) (mapped 5 6 (split_offers s) s.picks (split s))

-- 7
failing_kind : (o : Option (ℕ × List ℕ)) → kind (failing_offer o) ≡ 7
failing_kind None = refl
failing_kind (Some f) = refl

last_kind : (b : Bool) (x : Offer) → kind x ≡ 7 → kind (cond b Offer.Raise x) ≡ 7
last_kind true x h = refl
last_kind false x h = h

last : (p : Problem) (s : State) (k : Known) → Within 7 7 (last_offer p s k ∷ [])
last p s k = let q = last_kind s.free (failing_offer (failing_at p (content_at p s k))) (failing_kind (failing_at p (content_at p s k))) in one 7 7 (last_offer p s k) (omega (arith, q)) (omega (arith, q))

-- the groups from one on
module _ (p : Problem) (s : State) (k : Known) where
  abbrev rest_six : List Offer
  rest_six = or_else (splits_of s) (last_offer p s k ∷ [])

  abbrev rest_five : List Offer
  rest_five = or_else (decisions_of s) rest_six

  abbrev rest_four : List Offer
  rest_four = or_else (turns_of s) rest_five

  abbrev rest_three : List Offer
  rest_three = or_else (first_lemmas s k) rest_four

  abbrev second : List Offer
  second = units_from 0 s.trail.entries s.clauses ++ takes_of s

  abbrev rest_two : List Offer
  rest_two = or_else second rest_three

  late_six : Within 5 7 rest_six
  late_six = first_of 5 7 (splits_of s) (last_offer p s k ∷ []) (wider 5 5 6 7 (splits_of s) (omega arith) (omega arith) (splits s)) (wider 7 5 7 7 (last_offer p s k ∷ []) (omega arith) (omega arith) (last p s k))

  late_five : Within 5 7 rest_five
  late_five = first_of 5 7 (decisions_of s) rest_six (wider 5 5 6 7 (decisions_of s) (omega arith) (omega arith) (decisions s)) late_six

  late_four : Within 4 7 rest_four
  late_four = first_of 4 7 (turns_of s) rest_five (wider 4 4 4 7 (turns_of s) (omega arith) (omega arith) (turns s)) (wider 5 4 7 7 rest_five (omega arith) (omega arith) late_five)

  late_three : Within 3 7 rest_three
  late_three = first_of 3 7 (first_lemmas s k) rest_four (wider 3 3 3 7 (first_lemmas s k) (omega arith) (omega arith) (firsts s k)) (wider 4 3 7 7 rest_four (omega arith) (omega arith) late_four)

  early_two : Within 2 2 second
  early_two = joined 2 2 (units_from 0 s.trail.entries s.clauses) (takes_of s) (units 0 s.trail.entries s.clauses) (takes s)

  late_two : Within 2 7 rest_two
  late_two = first_of 2 7 second rest_three (wider 2 2 2 7 second (omega arith) (omega arith) early_two) (wider 3 2 7 7 rest_three (omega arith) (omega arith) late_three)

  else_cases : (xs ys : List Offer) (o : Offer) → Has (or_else xs ys) o → Has xs o ⊎ ((xs ≡ []) × Has ys o)
  else_cases [] ys o h = inr (refl, h)
  else_cases (x ∷ xs) ys o h = inl h

  -- an offer stands in its group, and is passed over by those of other kinds
  in_group : (low high : ℕ) (xs ys : List Offer) (o : Offer) → Within low high ys → kind o < low → Has (or_else xs ys) o → Has xs o
  in_group low high xs ys o late less h = elim (else_cases xs ys o h) [ inl q ↦ q | inr q ↦ (let r = (late o q.1).0 in absurd (omega (arith, r, less))) ]

  past : (low high : ℕ) (xs ys : List Offer) (o : Offer) → Within low high xs → high < kind o → Has (or_else xs ys) o → (xs ≡ []) × Has ys o
  past low high xs ys o early more h = elim (else_cases xs ys o h) [ inl q ↦ (let r = (early o q).1 in absurd (omega (arith, r, more))) | inr q ↦ q ]

  abbrev conflicts_here : List Offer
  conflicts_here = conflicts_from 0 s.trail.entries s.clauses

  pub at_one : (o : Offer) → kind o ≡ 1 → Has (menu_of p s k) o → Has conflicts_here o
  at_one o e h = in_group 2 7 conflicts_here rest_two o late_two (omega (arith, e)) (Has-take 64 (offers_of p s k) o h)

  pub at_two : (o : Offer) → kind o ≡ 2 → Has (menu_of p s k) o → (conflicts_here ≡ []) × Has second o
  at_two o e h =
      let q = past 1 1 conflicts_here rest_two o (conflicts 0 s.trail.entries s.clauses) (omega (arith, e)) (Has-take 64 (offers_of p s k) o h) in
      (q.0, in_group 3 7 second rest_three o late_three (omega (arith, e)) q.1)

  after_two : (o : Offer) → 2 < kind o → Has (menu_of p s k) o → Has rest_three o
  after_two o more h =
      let q = past 1 1 conflicts_here rest_two o (conflicts 0 s.trail.entries s.clauses) (omega (arith, more)) (Has-take 64 (offers_of p s k) o h) in
      (past 2 2 second rest_three o early_two more q.1).1

  after_three : (o : Offer) → 3 < kind o → Has (menu_of p s k) o → Has rest_four o
  after_three o more h = (past 3 3 (first_lemmas s k) rest_four o (firsts s k) more (after_two o (omega (arith, more)) h)).1

  pub at_four : (o : Offer) → kind o ≡ 4 → Has (menu_of p s k) o → Has (turns_of s) o
  at_four o e h = in_group 5 7 (turns_of s) rest_five o late_five (omega (arith, e)) (after_three o (omega (arith, e)) h)

  pub at_seven : (o : Offer) → kind o ≡ 7 → Has (menu_of p s k) o → last_offer p s k ≡ o
  at_seven o e h =
      let a = past 4 4 (turns_of s) rest_five o (turns s) (omega (arith, e)) (after_three o (omega (arith, e)) h) in
      let b = past 5 6 (decisions_of s) rest_six o (decisions s) (omega (arith, e)) a.1 in
      let c = past 5 6 (splits_of s) (last_offer p s k ∷ []) o (splits s) (omega (arith, e)) b.1 in
      only_one (last_offer p s k) o c.1

  pub at_five : (o : Offer) → 4 < kind o → kind o < 7 → Has (menu_of p s k) o → Has (decisions_of s) o ⊎ Has (splits_of s) o
  at_five o low high h =
      let a = past 4 4 (turns_of s) rest_five o (turns s) low (after_three o (omega (arith, low)) h) in
      elim (else_cases (decisions_of s) rest_six o a.1) [
        | inl q ↦ inl q
        | inr q ↦ elim (else_cases (splits_of s) (last_offer p s k ∷ []) o q.1) [
          | inl r ↦ inr r
          | inr r ↦ (let m = (last p s k o r.1).0 in absurd (omega (arith, m, high)))
        ]
      ]

  -- where a decision or more is offered the groups before are empty
  pub quiet_before : (o : Offer) → 4 < kind o → Has (menu_of p s k) o → (conflicts_here ≡ []) × (second ≡ []) × (first_lemmas s k ≡ []) × (turns_of s ≡ []) × Has rest_five o
  quiet_before o more h =
      let a = past 1 1 conflicts_here rest_two o (conflicts 0 s.trail.entries s.clauses) (omega (arith, more)) (Has-take 64 (offers_of p s k) o h) in
      let b = past 2 2 second rest_three o early_two (omega (arith, more)) a.1 in
      let c = past 3 3 (first_lemmas s k) rest_four o (firsts s k) (omega (arith, more)) b.1 in
      let d = past 4 4 (turns_of s) rest_five o (turns s) more c.1 in
      (a.0, b.0, c.0, d.0, d.1)

  -- and behind the decisions nothing is left to decide or to split
  pub decided_all : (o : Offer) → kind o ≡ 7 → Has (menu_of p s k) o → (decisions_of s ≡ []) × (splits_of s ≡ [])
  decided_all o e h =
      let a = past 4 4 (turns_of s) rest_five o (turns s) (omega (arith, e)) (after_three o (omega (arith, e)) h) in
      let b = past 5 6 (decisions_of s) rest_six o (decisions s) (omega (arith, e)) a.1 in
      let c = past 5 6 (splits_of s) (last_offer p s k ∷ []) o (splits s) (omega (arith, e)) b.1 in
      (b.0, c.0)

  pub at_three : (o : Offer) → kind o ≡ 3 → Has (menu_of p s k) o → Has (first_lemmas s k) o
  at_three o e h = in_group 4 7 (first_lemmas s k) rest_four o late_four (omega (arith, e)) (after_two o (omega (arith, e)) h)

  -- where more than the first group is offered no clause is false
  pub no_conflict : (o : Offer) → 1 < kind o → Has (menu_of p s k) o → conflicts_here ≡ []
  no_conflict o more h = (past 1 1 conflicts_here rest_two o (conflicts 0 s.trail.entries s.clauses) more (Has-take 64 (offers_of p s k) o h)).0

  -- where a lemma or more is offered no clause is false or unit, and all is read
  pub quiet_two : (o : Offer) → 2 < kind o → Has (menu_of p s k) o → (conflicts_here ≡ []) × (second ≡ [])
  quiet_two o more h =
      let a = past 1 1 conflicts_here rest_two o (conflicts 0 s.trail.entries s.clauses) (omega (arith, more)) (Has-take 64 (offers_of p s k) o h) in
      (a.0, (past 2 2 second rest_three o early_two more a.1).0)

  -- every offer is of one of the groups
  pub at_most_seven : (o : Offer) → Has (menu_of p s k) o → kind o ≤ 7
  at_most_seven o h =
      elim (else_cases conflicts_here rest_two o (Has-take 64 (offers_of p s k) o h)) [
        | inl q ↦ (let r = (conflicts 0 s.trail.entries s.clauses o q).1 in omega (arith, r))
        | inr q ↦ (late_two o q.1).1
      ]

  -- and there is one
  some_first : (xs ys : List Offer) → (y : Offer) × (more : List Offer) × (ys ≡ y ∷ more) → (x : Offer) × (more : List Offer) × (or_else xs ys ≡ x ∷ more)
  some_first [] ys h = h
  some_first (x ∷ xs) ys h = (x, xs, refl)

  pub not_empty : (o : Offer) × (slice_get (menu_of p s k) 0 ≡ Some o)
  not_empty =
      let six = some_first (splits_of s) (last_offer p s k ∷ []) (last_offer p s k, [], refl) in
      let five = some_first (decisions_of s) rest_six six in
      let four = some_first (turns_of s) rest_five five in
      let three = some_first (first_lemmas s k) rest_four four in
      let two = some_first second rest_three three in
      let one = some_first conflicts_here rest_two two in
      (one.0, ap (λ (xs : List Offer). slice_get (take 64 xs) 0) one.2)
