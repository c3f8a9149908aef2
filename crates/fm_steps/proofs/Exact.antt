-- Where groups 1 to 6 of the menu are empty the candidate's sizes add up to at most the bound; and where Answer Sat is offered
-- they add up to it.
use Rattle.std.proofs.Common.{◌≡◌, ℕ, zero, suc, ◌+◌, ◌-◌, ◌<◌, ◌≤◌, ◌⊎◌, ◌==◌, ◌&&◌, Bool, true, false, not, cond, nat_lt, List, [], ◌∷◌, get_or, length, map, take, Some, None, inl, inr, refl, sym, ap, subst, ◌∙◌, arith}
use Rattle.std.specs.Prelude.{Option, slice_get}
use Rattle.std.specs.List.{filter, flat_map, list_all, list_any, position_or_len, range_with_len}
use Rattle.std.proofs.lemmas.Bool.{and_parts, cases_Bool, cases_lt, false≢true, le-leb, ltb-false, not-true, or_right, true≢false}
use Rattle.std.proofs.lemmas.List.FromFn.{get_or-range_with_len, length-range_with_len}
use Rattle.std.proofs.lemmas.List.Sums.{passes_at_first}
use Rattle.std.proofs.lemmas.Slice.Eq.{bytes_eq-Decides}
use Rattle.fm_base.specs.Models.{sum_below, sum_of_sizes}
use Rattle.fm_base.specs.Resolution.{Has}
use Rattle.fm_base.specs.declared.ids.Reader.{Reader}
use Rattle.fm_base.specs.declared.signature.Sig.{Sig}
use Rattle.fm_base.proofs.Resolution.{has_mapped, mapped_has}
use Rattle.fm_bank.specs.Closure.{AreApart, Follows, Shape, no, object, yes}
use Rattle.fm_bank.specs.Instances.{equality}
use Rattle.fm_bank.specs.Interning.{find_atom, is_same_atom}
use Rattle.fm_bank.specs.Regions.{first_large, grown_regions}
use Rattle.fm_bank.specs.Tests.{Tests}
use Rattle.fm_bank.specs.declared.atom.Atom.{Atom}
use Rattle.fm_bank.specs.declared.literal.Literal.{Literal}
use Rattle.fm_bank.proofs.Atoms.{is_same_atom-refl, same_atom}
use Rattle.fm_guide.specs.declared.event.Word.{Word}
use Rattle.fm_rounds.specs.Rounds.{Content, candidate_reading, reps_of}
use Rattle.fm_rounds.proofs.Candidates.{candidate_interprets}
use Rattle.fm_rounds.proofs.Members.{filter_in, flat_in, in_filter, in_left, in_range, range_in}
use Rattle.fm_rounds.proofs.ReadAlike.{tables_read_alike}
use Rattle.fm_trail.specs.declared.entry.Entry.{Entry}
use Rattle.fm_trail.specs.Trail.{is_none, is_value}
use Rattle.fm_steps.specs.Bounds.{BoundIsDecided}
use Rattle.fm_steps.specs.Content.{AreTestsBy, all_shapes, classes_of, decides, equal_pair, facts_in, ground_literals_of, is_oldest, is_size, is_term_of_sort, literals_of, pairs_in}
use Rattle.fm_steps.specs.Facts.{PicksAreKnown}
use Rattle.fm_steps.specs.Lemmas.{Due, bounds_from, is_known, is_sum_due, literal_fails, total_above}
use Rattle.fm_steps.specs.Lines.{Certified, IsWellHeld}
use Rattle.fm_steps.specs.Menu.{clause_atoms, clique_offer, clique_offer_of, cliques_from, first_lemmas, lemmas_of, offer_for, open_literals, pair_offers, size_decision, size_decisions, split_offers, sum_offers_at, values_at}
use Rattle.fm_steps.specs.Offered.{PicksHold}
use Rattle.fm_steps.specs.Picks.{IsKnown, IsPair, IsPickAt, IsTest, Known, clique_lemma, clique_literals, is_clique, pair_literals, pick_literals, read_literals}
use Rattle.fm_steps.specs.Rows.{Offer, content_at}
use Rattle.fm_steps.specs.Searchable.{HasLastAlone, SatIsExact, SumIsWithin}
use Rattle.fm_steps.specs.Sizes.{card, greatest_false, holds, is_refuted, is_unvalued, least, least_open, least_true, least_with, lit, numbers_with, sort}
use Rattle.fm_steps.specs.State.{Pick, Problem, State, atom_value, read_by}
use Rattle.fm_steps.proofs.Chosen.{AreChosen, pick_there, reached_chosen, tests_same}
use Rattle.fm_steps.proofs.Classes.{no_more}
use Rattle.fm_steps.proofs.Contents.{contents_are_grounded, searchable_are_sorted}
use Rattle.fm_steps.proofs.Due.{all_in, known_has}
use Rattle.fm_steps.proofs.InRow.{IsOrdered, bound_true, bounds_there, false_up_to, greatest_above, holds_known, in_numbers, is_decided, is_large, not_due, offer_lemma, reached_ordered, sum_fails, sum_part, take_none, with_parts, within_bound, zero_false}
use Rattle.fm_steps.proofs.Lists.{Has-append, Has-get, append_none}
use Rattle.fm_steps.proofs.Numbered.{bounds_are_written, sat_is_met}
use Rattle.fm_steps.proofs.Offered.{cond_none, congruence_part, flat_none, reached_hold, value_none}
use Rattle.fm_steps.proofs.Pigeons.{Spread, no_longer}
use Rattle.fm_steps.proofs.Ready.{sat_ready}
use Rattle.fm_steps.proofs.Rising.{Ascends, PicksRise, filter_rises, reached_rise}
use Rattle.fm_steps.proofs.Runs.{runs_stay_held}
use Rattle.fm_steps.proofs.Shown.{apart_clash, fact_follows}
use Rattle.fm_steps.proofs.Sounding.{sum_is_reached}
use Rattle.fm_steps.proofs.Tested.{among, chosen as among_chosen}
use Rattle.fm_steps.proofs.Trails.{value_by_number}
use Rattle.fm_steps.proofs.Truths.{all_read, last_stands_alone, no_clash, none_left, true_among}
use Rattle.fm_steps.proofs.Typed.{typed_congruence}

-- a value is one of two
value_cases : (o : Option Bool) → is_none o ≡ false → (is_value o true ≡ true) ⊎ (is_value o false ≡ true)
value_cases None e = absurd (true≢false e)
value_cases (Some true) e = inl refl
value_cases (Some false) e = inr refl

-- the least of some numbers
least_most : (n : ℕ) (o : Option ℕ) → least_with n o ≤ n
least_most n None = omega arith
least_most n (Some k) = omega arith

least_under : (n : ℕ) (o : Option ℕ) (k m : ℕ) → o ≡ Some m → m ≤ k → least_with n o ≤ k
least_under n None k m e le = absurd (cc e)
least_under n (Some j) k m e le = let same : j ≡ m = cc e in omega (arith, same, le)

least_below : (ns : List ℕ) (k : ℕ) → Has ns k → (m : ℕ) × (least ns ≡ Some m) × (m ≤ k)
least_below [] k h = absurd h
least_below (n ∷ ns) k (inl e) = (least_with n (least ns), refl, (let g = least_most n (least ns) in omega (arith, g, e)))
least_below (n ∷ ns) k (inr h) = let r = least_below ns k h in (least_with n (least ns), refl, least_under n (least ns) k r.0 r.1 r.2)

-- sums from either end
sum_range : ℕ → ℕ → (ℕ → ℕ) → ℕ
sum_range v zero f = 0
sum_range v (suc n) f = f v + sum_range (v + 1) n f

sum_last : (v n : ℕ) (f : ℕ → ℕ) → sum_range v (suc n) f ≡ sum_range v n f + f (v + n)
unfolding sum_range
sum_last v zero f = let z : v + 0 ≡ v = omega arith in let same = ap f z in omega (arith, same)
sum_last v (suc n) f =
    let r = sum_last (v + 1) n f in
    let z : v + 1 + n ≡ v + suc n = omega arith in
    let same = ap f z in
    omega (arith, r, same)

below_range : (n : ℕ) (f : ℕ → ℕ) → sum_below n f ≡ sum_range 0 n f
unfolding sum_below sum_range
below_range zero f = refl
below_range (suc n) f =
    let r = below_range n f in
    let l = sum_last 0 n f in
    let z : 0 + n ≡ n = omega arith in
    let same = ap f z in
    omega (arith, r, l, same)

sum_bounds : (s : State) (f : ℕ → ℕ) (v n : ℕ) (ks : List ℕ) → bounds_from s v n ≡ Some ks → ((u g : ℕ) → v ≤ u → u < v + n → greatest_false s u ≡ Some g → f u ≤ g + 1) → sum_range v n f ≤ total_above ks
unfolding sum_range
sum_bounds s f v zero ks e h = omega arith
sum_bounds s f v (suc n) ks e h =
    let w = with_parts (greatest_false s v) (bounds_from s (v + 1) n) ks e in
    let one = h v w.0 (omega arith) (omega arith) w.2 in
    let more = sum_bounds s f (v + 1) n w.1 w.3 (λ u g low high at. h u g (omega (arith, low)) (omega (arith, high)) at) in
    let is = ap total_above w.4 in
    omega (arith, one, more, is)

-- cliques
record IsApartPair (apart : ℕ → ℕ → Bool) (l : Literal) : Type 0 where
  first : ℕ
  second : ℕ
  less : first < second
  apart_here : apart first second ≡ true
  is : l ≡ lit true (equality first second)

clique_pair : (apart : ℕ → ℕ → Bool) (ts : List ℕ) (l : Literal) → Ascends ts → is_clique apart ts ≡ true → Has (pair_literals ts) l → IsApartPair apart l
clique_pair apart [] l rises e h = absurd h
clique_pair apart (a ∷ more) l rises e h =
    let p = and_parts (list_all (λ b. apart a b) more) (is_clique apart more) e in
    elim (Has-append (map (λ b. lit true (equality a b)) more) (pair_literals more) l h) [
      | inl q ↦ (let w = mapped_has (λ b. lit true (equality a b)) more l q in
          record { first = a; second = w.lit; less = rises.0 w.lit w.has; apart_here = all_in (λ b. apart a b) more w.lit p.0 w.has; is = sym w.is })
      | inr q ↦ clique_pair apart more l rises.1 p.1 q
    ]

clique_at : (s : State) (v : ℕ) (ps : List (Option Pick)) (u : ℕ) (q : Option Pick) → cliques_from s v ps ≡ [] → slice_get ps u ≡ Some q → clique_offer s (v + u) q ≡ []
clique_at s v [] u q e at = absurd (cc at)
clique_at s v (x ∷ ps) zero q e at =
    let same : x ≡ q = cc at in
    let z : v ≡ v + 0 = omega arith in
    subst (λ (y : Option Pick). clique_offer s (v + 0) y ≡ []) same (subst (λ n. clique_offer s n x ≡ []) z (append_none (clique_offer s v x) (cliques_from s (v + 1) ps) e).0)
clique_at s v (x ∷ ps) (suc u) q e at =
    let z : v + 1 + u ≡ v + suc u = omega arith in
    subst (λ n. clique_offer s n q ≡ []) z (clique_at s (v + 1) ps u q (append_none (clique_offer s v x) (cliques_from s (v + 1) ps) e).1 at)

regions_part : (s : State) (k : Known) → first_lemmas s k ≡ [] → cliques_from s 0 s.picks ≡ []
regions_part s k e =
    let a = (append_none (take 1 (lemmas_of s k Reader.Congruence)) _ e).1 in
    let c = (append_none (take 1 (lemmas_of s k Reader.Regions)) _ a).0 in
    take_none (lemmas_of s k Reader.Regions) c

none_open_step : (b : Bool) (l : Literal) (ls : List Literal) → b ≡ true → ls ≡ [] → cond (not b) (l ∷ ls) ls ≡ []
none_open_step true l ls e f = f
none_open_step false l ls e f = absurd (false≢true e)

none_open : (s : State) (ls : List Literal) → ((l : Literal) → Has ls l → literal_fails s l ≡ true) → open_literals s ls ≡ []
none_open s [] h = refl
none_open s (l ∷ ls) h = none_open_step (literal_fails s l) l (open_literals s ls) (h l (inl refl)) (none_open s ls (λ k q. h k (inr q)))

-- splits
pair_none : (b c : Bool) (x y z : Offer) → cond b (cond c (x ∷ (y ∷ [])) []) (z ∷ []) ≡ [] → (b ≡ true) × (c ≡ false)
pair_none false c x y z e = absurd (cc e)
pair_none true true x y z e = absurd (cc e)
pair_none true false x y z e = (refl, refl)

split_part : (b : Bool) (xs : List Offer) → b ≡ false → cond b [] xs ≡ [] → xs ≡ []
split_part true xs e f = absurd (true≢false e)
split_part false xs e f = f

pub ordered_two : (p : ℕ → Bool) (ts : List ℕ) (a b : ℕ) → Ascends ts → filter p ts ≡ a ∷ (b ∷ []) → a < b
ordered_two p ts a b rises e = (subst Ascends e (filter_rises p ts rises)).0 b (inl refl)

apart_in : (shapes : List Shape) (facts ps : List (ℕ × ℕ)) (x y : ℕ) → Has ps (x, y) → AreApart shapes facts ps x y
apart_in shapes facts [] x y h = absurd h
apart_in shapes facts (q ∷ ps) x y (inl e) = inl (inl (subst (λ (r : ℕ × ℕ). Follows shapes facts (object x) (object r.0) × Follows shapes facts (object y) (object r.1)) (sym e) ((λ R c. c.reflexive (object x)), (λ R c. c.reflexive (object y)))))
apart_in shapes facts (q ∷ ps) x y (inr h) = inr (apart_in shapes facts ps x y h)

itself_paired : (v : Bool) (a b : ℕ) → Has (equal_pair v v (Atom.Equal (record { 0 = a }) (record { 0 = b }))) (a, b)
itself_paired true a b = inl refl
itself_paired false a b = inl refl

in_order : (a b : ℕ) → a < b → equality a b ≡ Atom.Equal (record { 0 = a }) (record { 0 = b })
in_order a b lt = ap (λ (c : Bool). cond c (Atom.Equal (record { 0 = a }) (record { 0 = b })) (Atom.Equal (record { 0 = b }) (record { 0 = a }))) (le-leb a b (omega (arith, lt)))

pub older_apart : (t : Tests) (a b : ℕ) → a < b → is_oldest t b ≡ true → t.same (object a) (object b) ≡ false
older_apart t a b lt e = not-true (t.same (object a) (object b)) (all_in (λ m. not (t.same (object m) (object b))) (range_with_len 0 b) a e (range_in a 0 b (omega arith) (omega (arith, lt))))

abbrev number_of : Atom → ℕ
number_of (Atom.Card u k) = k
number_of (Atom.Equal a b) = 0
number_of (Atom.Pred t) = 0
number_of (Atom.Bound n) = 0

module _ (p : Problem) (s : State) (k : Known) (is : IsKnown s k) (ordered : IsOrdered p s) (held : IsWellHeld p s) (holding : PicksHold s) (rising : PicksRise s) (known : PicksAreKnown s) (chosen : AreChosen s) (bounded : s.free ≡ false) (alone : HasLastAlone s k) where
  sorts_same : s.held.sig.sorts ≡ p.sig.sorts
  sorts_same = ap (λ (g : Sig). g.sorts) ordered.sig

  left : (is_unvalued s (Atom.Bound s.bound) ≡ false) × (size_decisions s ≡ []) × (clause_atoms s ≡ [])
  left = none_left s bounded alone.decisions

  decided : BoundIsDecided s
  decided = is_decided p s k ordered.row ordered.bounded sorts_same alone.turns alone.lemmas bounded left.0

  -- what has a value was read
  value_read : (r : Reader) (v : Bool) (a : Atom) → is_size a ≡ false → holds s v a ≡ true → Has (read_literals r s) (lit v a)
  value_read r v a ground h =
      filter_in (λ (x : Literal). not (is_size x.atom)) (lit v a) (literals_of s.held.atoms (read_by r s))
      (subst (λ (es : List Entry). Has (literals_of s.held.atoms es) (lit v a)) (sym (all_read s r alone.takes)) (true_among s s.trail.entries (lit v a) (holds_known s a v (find_atom s.held.atoms a) refl h) (value_by_number s.trail.entries s.held.atoms a v h))) (ap not ground)

  pair_read : (r : Reader) (v : Bool) (a b : ℕ) → a < b → holds s v (equality a b) ≡ true → Has (pairs_in v (read_literals r s)) (a, b)
  pair_read r v a b lt h =
      let e = in_order a b lt in
      flat_in (λ (l : Literal). equal_pair v l.positive l.atom) (a, b) (read_literals r s) (lit v (equality a b)) (value_read r v (equality a b) (ap is_size e) h) (subst (λ (x : Atom). Has (equal_pair v v x) (a, b)) (sym e) (itself_paired v a b))

  -- both readers of equalities know the same
  one_test : k.regions ≡ k.congruence
  one_test =
      let same : read_literals Reader.Regions s ≡ read_literals Reader.Congruence s = ap (ground_literals_of s.held.atoms) (all_read s Reader.Regions alone.takes ∙ sym (all_read s Reader.Congruence alone.takes)) in
      let read = read_literals Reader.Congruence s in
      tests_same (all_shapes s.held) (facts_in read) (pairs_in false read) k.regions k.congruence (subst (λ (ls : List Literal). AreTestsBy s.held ls k.regions) same is.regions) is.congruence

  -- the least bound of a sort that isn't false is true
  abbrev place : ℕ → ℕ
  place u = position_or_len (λ i. not (holds s false (card u (i + 1)))) (range_with_len 0 (length s.held.atoms))

  false_to : (u j : ℕ) → u < p.sig.sorts → j ≤ place u → holds s false (card u j) ≡ true
  false_to u j lt le = false_up_to p s k ordered.row ordered.bounded sorts_same alone.turns alone.lemmas decided u j lt le

  value_known : (v : Bool) (a : Atom) → holds s v a ≡ true → is_known s a ≡ true
  value_known v a h = holds_known s a v (find_atom s.held.atoms a) refl h

  abbrev goes : ℕ → ℕ → Atom → Bool
  goes u n a = is_same_atom (card u n) a

  numbers_spread : (u a n : ℕ) → Spread (goes u) (range_with_len a n)
  numbers_spread u a zero = tt
  numbers_spread u a (suc n) = (
    (λ z y q e f.
        let low = (in_range z (a + 1) n q).0 in
        let same : a ≡ z = ap number_of (same_atom (card u a) y e ∙ sym (same_atom (card u z) y f)) in
        absurd (omega (arith, low, same))),
    numbers_spread u (a + 1) n,
  )

  not_past : (u : ℕ) → u < p.sig.sorts → holds s false (card u (place u + 1)) ≡ true → length s.held.atoms ≤ place u → ⊥
  not_past u lt f past =
      let all : (n : ℕ) → Has (range_with_len 0 (suc (place u + 1))) n → (y : Atom) × Has s.held.atoms y × (goes u n y ≡ true) = λ n q.
      let high = (in_range n 0 (suc (place u + 1)) q).1 in
      let here : holds s false (card u n) ≡ true = elim (cases_lt (place u) n) [
        | inl above ↦ (let same : place u + 1 ≡ n = omega (arith, above, high) in subst (λ m. holds s false (card u m) ≡ true) same f)
        | inr low ↦ false_to u n lt low
      ] in
      (card u n, known_has s (card u n) (value_known false (card u n) here), is_same_atom-refl (card u n)) in
      let most = no_longer (goes u) (range_with_len 0 (suc (place u + 1))) s.held.atoms (numbers_spread u 0 (suc (place u + 1))) all in
      let count = length-range_with_len 0 (suc (place u + 1)) in
      absurd (omega (arith, most, count, past))

  not_false : (u : ℕ) → u < p.sig.sorts → holds s false (card u (place u + 1)) ≡ true → ⊥
  not_false u lt f =
      let test : ℕ → Bool = λ i. not (holds s false (card u (i + 1))) in
      let xs = range_with_len 0 (length s.held.atoms) in
      let count = length-range_with_len 0 (length s.held.atoms) in
      elim (cases_lt (place u) (length xs)) [
        | inl found ↦ (let passes = passes_at_first test xs 0 found in
            let at : get_or xs (place u) 0 ≡ place u = (let e = get_or-range_with_len 0 (length s.held.atoms) (place u) 0 (omega (arith, found, count)) in omega (arith, e)) in
            let open' : not (holds s false (card u (place u + 1))) ≡ true = subst (λ n. not (holds s false (card u (n + 1))) ≡ true) at passes in
            false≢true (sym (ap not f) ∙ open'))
        | inr past ↦ not_past u lt f (omega (arith, past, count))
      ]

  true_open : (u : ℕ) → u < p.sig.sorts → holds s true (card u (place u + 1)) ≡ true
  true_open u lt =
      let here = flat_none (size_decision s) (range_with_len 0 s.held.sig.sorts) u left.1 (range_in u 0 s.held.sig.sorts (omega arith) (omega (arith, lt, sorts_same))) in
      elim (value_cases (atom_value s (card u (place u + 1))) (cond_none (is_unvalued s (card u (least_open s u))) _ here)) [
        | inl t ↦ t
        | inr f ↦ absurd (not_false u lt f)
      ]

  -- a sort has no test
  no_split : (u m : ℕ) (pick : Pick) (a b : ℕ) → slice_get s.picks u ≡ Some (Some pick) → pick.pair ≡ Some (a, b) → IsTest k.regions (classes_of s.held k.regions (sort u)) m pick → IsPair k.regions pick.terms (Some (a, b)) → ⊥
  no_split u m pick a b at pair test h =
      let classes = classes_of s.held k.regions (sort u) in
      let offers = flat_none (split_offers s) s.picks (Some pick) (split_part s.free (flat_map (split_offers s) s.picks) bounded alone.splits) (Has-get s.picks u (Some pick) at) in
      let here : pair_offers s (Some (a, b)) ≡ [] = sym (ap (pair_offers s) pair) ∙ offers in
      let valued = (pair_none (is_known s (equality a b)) (is_unvalued s (equality a b)) _ _ _ here).1 in
      let two : ℕ → Bool = λ y. list_any (λ x. x == y) (a ∷ (b ∷ [])) in
      let chosen' : filter two pick.terms ≡ a ∷ (b ∷ []) = (bytes_eq-Decides (filter two pick.terms) (a ∷ (b ∷ []))).0 h.0 in
      let lt = ordered_two two pick.terms a b (rising u pick at) chosen' in
      let b_in : Has pick.terms b = among_chosen (a ∷ (b ∷ [])) pick.terms h.0 b (inr (inl refl)) in
      let b_class = among k.regions.apart classes m b (among_chosen pick.terms (first_large m (grown_regions k.regions.apart classes m)) test.among b b_in) in
      let oldest = (and_parts (is_term_of_sort s.held u b) (is_oldest k.regions b) (in_filter (λ n. is_term_of_sort s.held u n && is_oldest k.regions n) b (range_with_len 0 (length s.held.terms)) b_class).1).1 in
      let read = read_literals Reader.Regions s in
      elim (value_cases (atom_value s (equality a b)) valued) [
        | inl t ↦ (let joined = (is.regions.same_is (object a) (object b)).1 (fact_follows (all_shapes s.held) (facts_in read) (object a) (object b) (in_left (object a, object b) (map (λ (q : ℕ × ℕ). (object q.0, object q.1)) (pairs_in true read)) _ (has_mapped (λ (q : ℕ × ℕ). (object q.0, object q.1)) (pairs_in true read) (a, b) (pair_read Reader.Regions true a b lt t)))) in
            true≢false (sym joined ∙ older_apart k.regions a b lt oldest))
        | inr f ↦ (let apart = (is.regions.apart_is a b).1 (apart_in (all_shapes s.held) (facts_in read) (pairs_in false read) a b (pair_read Reader.Regions false a b lt f)) in
            true≢false (sym apart ∙ h.1))
      ]

  -- two terms that are apart: their equality, where it is known, is false
  apart_fails : (a b : ℕ) → a < b → k.regions.apart a b ≡ true → is_known s (equality a b) ≡ true → holds s false (equality a b) ≡ true
  apart_fails a b lt apart there =
      let read = read_literals Reader.Congruence s in
      let shapes = all_shapes s.held in
      let here : k.congruence.apart a b ≡ true = sym (ap (λ (t : Tests). t.apart a b) one_test) ∙ apart in
      let decide : decides k.congruence (equality a b) false ≡ true = ap (λ (x : Atom). decides k.congruence x false) (in_order a b lt) ∙ here in
      let none = flat_none (values_at s k) s.held.atoms (equality a b) (append_none _ _ (congruence_part s k alone.lemmas)).1 (known_has s (equality a b) there) in
      let valued : is_unvalued s (equality a b) ≡ false = elim (cases_Bool (is_unvalued s (equality a b))) [
        | inl t ↦ absurd (value_none s k (equality a b) false none t decide)
        | inr f ↦ f
      ] in
      elim (value_cases (atom_value s (equality a b)) valued) [
        | inl t ↦ (let fact = in_left (object a, object b) (map (λ (q : ℕ × ℕ). (object q.0, object q.1)) (pairs_in true read)) _ (has_mapped (λ (q : ℕ × ℕ). (object q.0, object q.1)) (pairs_in true read) (a, b) (pair_read Reader.Congruence true a b lt t)) in
            let joined = fact_follows shapes (facts_in read) (object a) (object b) fact in
            let clash = apart_clash shapes (facts_in read) (facts_in read) k.congruence.same a b (λ x y q. q) (λ x y q. (is.congruence.same_is x y).1 q) joined (pairs_in false read) ((is.congruence.apart_is a b).0 here) in
            absurd (true≢false (sym (or_right (k.congruence.same yes no) _ clash) ∙ no_clash s k alone.lemmas)))
        | inr f ↦ f
      ]

  pairs_known : (u : ℕ) (pick : Pick) (l : Literal) → slice_get s.picks u ≡ Some (Some pick) → pick.pair ≡ None → Has (pair_literals pick.terms) l → is_known s l.atom ≡ true
  pairs_known u pick l at pair h =
      let here : Has (pick_literals (Some pick)) l = subst (λ (o : Option (ℕ × ℕ)). Has (clique_literals o pick.terms) l) (sym pair) h in
      all_in (λ (x : Literal). is_known s x.atom) (flat_map pick_literals s.picks) l known (flat_in pick_literals l s.picks (Some pick) (Has-get s.picks u (Some pick) at) here)

  no_clique : (u : ℕ) (pick : Pick) → slice_get s.picks u ≡ Some (Some pick) → pick.pair ≡ None → is_clique k.regions.apart pick.terms ≡ true → ⊥
  no_clique u pick at pair clique =
      let z : 0 + u ≡ u = omega arith in
      let ls = clique_lemma u pick.terms in
      let offers : clique_offer s u (Some pick) ≡ [] = subst (λ n. clique_offer s n (Some pick) ≡ []) z (clique_at s 0 s.picks u (Some pick) (regions_part s k alone.lemmas) at) in
      let offer : offer_for s Reader.Regions (Due.Clique u) ls ≡ [] = subst (λ (o : Option (ℕ × ℕ)). clique_offer_of s u pick.terms o ≡ []) pair offers in
      let pairs : (l : Literal) → Has (pair_literals pick.terms) l → literal_fails s l ≡ true = λ l q.
      let w = clique_pair k.regions.apart pick.terms l (rising u pick at) clique q in
      subst (λ (x : Literal). literal_fails s x ≡ true) (sym w.is) (apart_fails w.first w.second w.less w.apart_here (subst (λ (x : Literal). is_known s x.atom ≡ true) w.is (pairs_known u pick l at pair q))) in
      let fails : (l : Literal) → Has ls l → literal_fails s l ≡ true = λ l q. elim q [
        | inl e ↦ subst (λ (x : Literal). literal_fails s x ≡ true) e (holding u pick at)
        | inr r ↦ pairs l r
      ] in
      offer_lemma s Reader.Regions (Due.Clique u) ls (open_literals s ls) (none_open s ls fails) offer

  no_test : (u m : ℕ) (pick : Pick) (o : Option (ℕ × ℕ)) → pick.pair ≡ o → slice_get s.picks u ≡ Some (Some pick) → IsTest k.regions (classes_of s.held k.regions (sort u)) m pick → IsPair k.regions pick.terms o → ⊥
  no_test u m pick None pair at test h = no_clique u pick at pair h
  no_test u m pick (Some q) pair at test h = no_split u m pick q.0 q.1 at pair test h

  few_classes : (u m : ℕ) (q : Option Pick) → slice_get s.picks u ≡ Some q → IsPickAt k.regions (classes_of s.held k.regions (sort u)) (Some m) q → length (classes_of s.held k.regions (sort u)) ≤ m
  few_classes u m None at h = ltb-false m (length (classes_of s.held k.regions (sort u))) h
  few_classes u m (Some pick) at h = absurd (no_test u m pick pick.pair refl at h.1 h.1.pair)

  -- as many classes as the greatest false bound allows
  classes_within : (u g : ℕ) → u < p.sig.sorts → greatest_false s u ≡ Some g → length (classes_of s.held k.congruence (sort u)) ≤ g + 1
  classes_within u g lt at =
      let z : 0 + u ≡ u = omega arith in
      let open' = true_open u lt in
      let low = least_below (numbers_with s true u) (place u + 1) (in_numbers s true u (place u + 1) (value_known true (card u (place u + 1)) open') open') in
      let closed = false_to u (place u) lt (omega arith) in
      let high = greatest_above (numbers_with s false u) (place u) (in_numbers s false u (place u) (value_known false (card u (place u)) closed) closed) in
      let same : high.0 ≡ g = cc (sym high.1 ∙ at) in
      let w = pick_there s k.regions 0 s.picks (chosen k is) u (omega (arith, lt, sorts_same)) in
      let test : IsPickAt k.regions (classes_of s.held k.regions (sort u)) (least_true s u) w.0 = subst (λ n. IsPickAt k.regions (classes_of s.held k.regions (sort n)) (least_true s n) w.0) z w.2 in
      let few = few_classes u low.0 w.0 w.1 (subst (λ (o : Option ℕ). IsPickAt k.regions (classes_of s.held k.regions (sort u)) o w.0) low.1 test) in
      let count = ap (λ (t : Tests). length (classes_of s.held t (sort u))) one_test in
      let a = low.2 in
      let b = high.2 in
      omega (arith, few, count, a, b, same)

  pub sum_within : sum_of_sizes p.sig (candidate_reading (content_at p s k)) ≤ s.bound
  sum_within =
      let c : Content = content_at p s k in
      let m = s.held.sig.sorts in
      let size : ℕ → ℕ = λ u. length (reps_of c u) in
      let zero : (u : ℕ) → u < p.sig.sorts → holds s false (card u 0) ≡ true = λ u lt. zero_false p s k ordered.row ordered.bounded sorts_same alone.turns alone.lemmas decided u lt in
      let all : (v : ℕ) → 0 ≤ v → v < 0 + m → (g : ℕ) × (greatest_false s v ≡ Some g) = λ v low high.
      let z = zero v (omega (arith, high, sorts_same)) in
      let g = greatest_above (numbers_with s false v) 0 (in_numbers s false v 0 (value_known false (card v 0) z) z) in
      (g.0, g.1) in
      let ks = bounds_there s 0 m all in
      let true' = bound_true p s k ordered.row ordered.bounded sorts_same alone.turns alone.lemmas decided in
      let fails = sum_fails s 0 m ks.0 ks.1 true' in
      let empty : sum_offers_at s (Some ks.0) ≡ [] = ap (sum_offers_at s) (sym ks.1) ∙ sum_part s k alone.lemmas in
      let due = not_due (is_sum_due s (Some ks.0)) s ks.0 fails empty in
      let low = ltb-false s.bound (total_above ks.0) (within_bound (nat_lt s.bound (total_above ks.0)) (holds s true (Atom.Bound s.bound)) due true') in
      let tests = typed_congruence p s k held is in
      let sum = sum_bounds s size 0 m ks.0 ks.1 (λ u g lo hi at. let few = classes_within u g (omega (arith, hi, sorts_same)) at in let most = no_more p s k ordered.sig tests u in omega (arith, few, most)) in
      let ends = below_range p.sig.sorts size in
      let same = ap (λ n. sum_range 0 n size) sorts_same in
      omega (arith, low, sum, ends, same)

  pub bound_below : 0 < s.bound → is_refuted s (Atom.Bound (s.bound - 1)) ≡ true
  bound_below some =
      elim (cases_lt (s.bound - 1) p.sig.sorts) [
        | inl few ↦ (let least = ordered.row.least in
            (is_large p s k ordered.row ordered.bounded sorts_same alone.turns alone.lemmas decided).sum (s.bound - 1) (omega (arith, few, least, some)))
        | inr many ↦ ordered.bounded.good.lawful.bounds.smaller (s.bound - 1) (omega (arith, many)) (omega (arith, some))
      ]

no_sum : (n : ℕ) (f : ℕ → ℕ) → n ≡ 0 → sum_below n f ≡ 0
unfolding sum_below
no_sum zero f e = refl
no_sum (suc n) f e = absurd (omega (arith, e))

pub sum_is_within : SumIsWithin
sum_is_within p b events s k search h is bounded alone =
    let o = reached_ordered p b events s h in
    sum_within p s k is o (runs_stay_held p b events s (searchable_are_sorted p search) h) (reached_hold p b events s h) (reached_rise p b events s h) o.bounded.good.picks (reached_chosen p b events s h) bounded alone

pub sat_is_exact : SatIsExact
sat_is_exact p b events s k search h is fit offered =
    let bounded = (sat_ready p s k offered).0 in
    let alone = last_stands_alone p s k (Offer.Answer Word.Sat) tt offered in
    let sorted = searchable_are_sorted p search in
    let o = reached_ordered p b events s h in
    let g = contents_are_grounded p b events s k search h is in
    let c : Certified = record { sig = p.sig; assertions = []; symbols = p.sig; clauses = p.clauses } in
    let most = sum_is_within p b events s k search h is bounded alone in
    let least = (sum_is_reached c p.user b events s (candidate_reading (content_at p s k)) sorted h (bounds_are_written p b events s sorted h fit) (candidate_interprets (content_at p s k) g search.named) (sat_is_met p b s k offered).1).least in
    let sum : sum_of_sizes p.sig (candidate_reading (content_at p s k)) ≡ s.bound = omega (arith, most, least) in
    record {
      sum = sum;
      tables = (tables_read_alike (content_at p s k) p.clauses g search.named search.sorted).sum ∙ sum;
      none = λ e. sym sum ∙ no_sum p.sig.sorts (λ u. length (reps_of (content_at p s k) u)) e;
      below = bound_below p s k is o (runs_stay_held p b events s sorted h) (reached_hold p b events s h) (reached_rise p b events s h) o.bounded.good.picks (reached_chosen p b events s h) bounded alone;
    }
