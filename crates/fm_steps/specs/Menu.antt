-- The menu: the first of the groups that isn't empty, cut after 64 offers. All of it computes from the tests and the picks.
use Rattle.std.specs.Prelude.{ℕ, ◌+◌, ◌==◌, nat_lt, Bool, true, false, ◌&&◌, not, if◌then◌else◌, List, [], ◌∷◌, ◌++◌, length, slice_get, take, Option, Some, None}
use Rattle.std.specs.List.{filter, flat_map, list_all, list_any, range_with_len}
use Rattle.fm_base.specs.declared.ids.Lit.{Lit}
use Rattle.fm_base.specs.declared.ids.Reader.{Reader}
use Rattle.fm_bank.specs.declared.atom.Atom.{Atom}
use Rattle.fm_bank.specs.declared.literal.Literal.{Literal}
use Rattle.fm_bank.specs.Instances.{equality}
use Rattle.fm_guide.specs.declared.event.Word.{Word}
use Rattle.fm_rounds.specs.Failing.{failing_instance}
use Rattle.fm_rounds.specs.Rounds.{Content, candidate_reading, representatives}
use Rattle.fm_trail.specs.declared.entry.Entry.{Entry}
use Rattle.fm_trail.specs.Trail.{are_false, head_of, level_on, unit_of}
use Rattle.fm_steps.specs.Content.{decides, has_clash, is_size}
use Rattle.fm_steps.specs.Lemmas.{Due, bound_order, bounds_from, card_order, is_known, is_sum_due, literal_fails, sum_literals}
use Rattle.fm_steps.specs.Picks.{Known, clique_lemma, read_literals}
use Rattle.fm_steps.specs.Rows.{Offer, content_at, is_satisfied}
use Rattle.fm_steps.specs.Sizes.{card, is_refuted, is_unvalued, least_open, lit}
use Rattle.fm_steps.specs.State.{Clause, Pick, Problem, State}

abbrev pub readers : List Reader
readers = Reader.Congruence ∷ (Reader.Regions ∷ (Reader.Sum ∷ (Reader.Instances ∷ [])))

-- the offers of a group, or where it is empty those of the groups behind it
abbrev pub or_else : List Offer → List Offer → List Offer
or_else [] more = more
or_else (e ∷ es) more = e ∷ es

-- 1. For the first false clause: Answer Unsat where all its literals are of level 0, else Learn.
abbrev pub is_of_level_zero : List Entry → Clause → Bool
is_of_level_zero es c = list_all (λ (l : Lit). level_on es l == 0) c

abbrev pub conflict_at : ℕ → List Entry → Clause → Offer
conflict_at n es c = if is_of_level_zero es c then Offer.Answer Word.Unsat else Offer.Learn n

abbrev pub conflicts_from : ℕ → List Entry → List Clause → List Offer
conflicts_from n es [] = []
conflicts_from n es (c ∷ cs) = if are_false es c then conflict_at n es c ∷ [] else conflicts_from (n + 1) es cs

-- 2. Unit in order of clauses; then Take for each reader.
abbrev pub unit_at : ℕ → Option Lit → List Offer
unit_at n None = []
unit_at n (Some l) = Offer.Unit' n ∷ []

abbrev pub units_from : ℕ → List Entry → List Clause → List Offer
units_from n es [] = []
units_from n es (c ∷ cs) = unit_at n (unit_of es c) ++ units_from (n + 1) es cs

abbrev pub takes_of : State → List Offer
takes_of s = flat_map (λ r. if nat_lt (head_of s.trail.heads r) (length s.trail.entries) then Offer.Take r ∷ [] else []) readers

-- 3. For each reader its first due lemma that is false or unit: Lemma or Imply.
abbrev pub open_literals : State → List Literal → List Literal
open_literals s ls = filter (λ (l : Literal). not (literal_fails s l)) ls

abbrev pub by_open : State → Reader → Due → List Literal → List Offer
by_open s r d [] = Offer.Lemma r d ∷ []
by_open s r d (l ∷ []) = if is_unvalued s l.atom then Offer.Imply r d ∷ [] else []
by_open s r d (l ∷ (k ∷ ks)) = []

abbrev pub offer_for : State → Reader → Due → List Literal → List Offer
offer_for s r d ls = by_open s r d (open_literals s ls)

-- to Congruence: the clash, then the atoms without value by number
abbrev pub values_at : State → Known → Atom → List Offer
values_at s k a =
    if is_unvalued s a && decides k.congruence a true then Offer.Imply Reader.Congruence (Due.Value a true) ∷ []
    else (if is_unvalued s a && decides k.congruence a false then Offer.Imply Reader.Congruence (Due.Value a false) ∷ [] else [])

abbrev pub congruence_offers : State → Known → List Offer
congruence_offers s k =
    (if has_clash (read_literals Reader.Congruence s) k.congruence then Offer.Lemma Reader.Congruence Due.Clash ∷ [] else [])
    ++ flat_map (values_at s k) s.held.atoms

-- to Regions: the cliques by sort
abbrev pub clique_offer_of : State → ℕ → List ℕ → Option (ℕ × ℕ) → List Offer
clique_offer_of s u terms None = offer_for s Reader.Regions (Due.Clique u) (clique_lemma u terms)
clique_offer_of s u terms (Some p) = []

abbrev pub clique_offer : State → ℕ → Option Pick → List Offer
clique_offer s u None = []
clique_offer s u (Some pick) = clique_offer_of s u pick.terms pick.pair

abbrev pub cliques_from : State → ℕ → List (Option Pick) → List Offer
cliques_from s u [] = []
cliques_from s u (p ∷ ps) = clique_offer s u p ++ cliques_from s (u + 1) ps

-- to Sum: the sum lemma, then the order lemmas whose two atoms are known, by sort and number, and by number. The known
-- numbers of a sort are 0, 1, .. without a gap.
abbrev pub sum_offers_at : State → Option (List ℕ) → List Offer
sum_offers_at s None = []
sum_offers_at s (Some ks) = if is_sum_due s (Some ks) then offer_for s Reader.Sum Due.SumBound (sum_literals s 0 ks) else []

abbrev pub card_order_at : State → ℕ → ℕ → List Offer
card_order_at s u j =
    if is_known s (card u j) && is_known s (card u (j + 1)) then offer_for s Reader.Sum (Due.CardOrder u j) (card_order u j) else []

abbrev pub bound_order_at : State → ℕ → List Offer
bound_order_at s n =
    if is_known s (Atom.Bound n) && is_known s (Atom.Bound (n + 1)) then offer_for s Reader.Sum (Due.BoundOrder n) (bound_order n) else []

abbrev pub card_orders : State → List Offer
card_orders s = flat_map (λ u. flat_map (card_order_at s u) (range_with_len 0 (length s.held.atoms))) (range_with_len 0 s.held.sig.sorts)

abbrev pub bound_orders : State → List Offer
bound_orders s = flat_map (bound_order_at s) (range_with_len 0 s.bound)

abbrev pub lemmas_of : State → Known → Reader → List Offer
lemmas_of s k Reader.Congruence = congruence_offers s k
lemmas_of s k Reader.Regions = cliques_from s 0 s.picks
lemmas_of s k Reader.Sum = sum_offers_at s (bounds_from s 0 s.held.sig.sorts) ++ (card_orders s ++ bound_orders s)
lemmas_of s k Reader.Instances = []

abbrev pub first_lemmas : State → Known → List Offer
first_lemmas s k = flat_map (λ r. take 1 (lemmas_of s k r)) readers

-- 4. Turn.
abbrev pub turns_of : State → List Offer
turns_of s = if not s.free && is_refuted s (Atom.Bound s.bound) then Offer.Turn ∷ [] else []

-- 5. Decide. The atoms without value of clauses without a true literal, in order, first negative and then positive;
abbrev pub is_wanted : State → ℕ → Bool
is_wanted s a = list_any (λ (c : Clause). not (is_satisfied s.trail.entries c) && list_any (λ (l : Lit). l.atom.0 == a) c) s.clauses

abbrev pub both_ways : State → ℕ → Option Atom → List Offer
both_ways s n None = []
both_ways s n (Some a) = if is_unvalued s a && is_wanted s n then Offer.Decide (lit false a) ∷ (Offer.Decide (lit true a) ∷ []) else []

abbrev pub clause_atoms : State → List Offer
clause_atoms s = flat_map (λ n. both_ways s n (slice_get s.held.atoms n)) (range_with_len 0 (length s.held.atoms))

-- bounded: before them the bound, and where it has a value the least size of each sort that isn't false;
abbrev pub size_decision : State → ℕ → List Offer
size_decision s u = if is_unvalued s (card u (least_open s u)) then Offer.Decide (lit true (card u (least_open s u))) ∷ [] else []

abbrev pub size_decisions : State → List Offer
size_decisions s = flat_map (size_decision s) (range_with_len 0 s.held.sig.sorts)

-- free: before them each size atom without value, negative.
abbrev pub free_decision : State → Atom → List Offer
free_decision s a = if is_size a && is_unvalued s a then Offer.Decide (lit false a) ∷ [] else []

abbrev pub free_decisions : State → List Offer
free_decisions s = flat_map (free_decision s) s.held.atoms

abbrev pub bounded_decisions : State → List Offer
bounded_decisions s = if is_unvalued s (Atom.Bound s.bound) then Offer.Decide (lit true (Atom.Bound s.bound)) ∷ [] else or_else (size_decisions s) (clause_atoms s)

abbrev pub decisions_of : State → List Offer
decisions_of s = if s.free then or_else (free_decisions s) (clause_atoms s) else bounded_decisions s

-- 6. Bounded: for each sort with more classes than its least true bound the Split of its test's pair, or, where that atom is
-- known and has no value, the Decide of its positive and then of its negative literal.
abbrev pub split_decisions : State → Atom → List Offer
split_decisions s a = if is_unvalued s a then Offer.Decide (lit true a) ∷ (Offer.Decide (lit false a) ∷ []) else []

abbrev pub pair_offers : State → Option (ℕ × ℕ) → List Offer
pair_offers s None = []
pair_offers s (Some p) = if is_known s (equality p.0 p.1) then split_decisions s (equality p.0 p.1) else Offer.Split p.0 p.1 ∷ []

abbrev pub split_offers : State → Option Pick → List Offer
split_offers s None = []
split_offers s (Some pick) = pair_offers s pick.pair

abbrev pub splits_of : State → List Offer
splits_of s = if s.free then [] else flat_map (split_offers s) s.picks

-- 7. Bounded: Instance of the first failing clause, or Answer Sat. Free: Raise.
abbrev pub failing_offer : Option (ℕ × List ℕ) → Offer
failing_offer None = Offer.Answer Word.Sat
failing_offer (Some f) = Offer.Instance f.0 f.1

abbrev pub failing_at : Problem → Content → Option (ℕ × List ℕ)
failing_at p c = failing_instance (candidate_reading c) (representatives c) p.clauses

abbrev pub last_offer : Problem → State → Known → Offer
last_offer p s k = if s.free then Offer.Raise else failing_offer (failing_at p (content_at p s k))

abbrev pub offers_of : Problem → State → Known → List Offer
offers_of p s k =
    or_else (conflicts_from 0 s.trail.entries s.clauses)
    (or_else (units_from 0 s.trail.entries s.clauses ++ takes_of s)
    (or_else (first_lemmas s k)
    (or_else (turns_of s)
    (or_else (decisions_of s)
    (or_else (splits_of s)
    (last_offer p s k ∷ []))))))

abbrev pub menu_of : Problem → State → Known → List Offer
menu_of p s k = take 64 (offers_of p s k)
