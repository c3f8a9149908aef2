-- What is offered as a lemma is due.
use Rattle.std.proofs.Common.{◌≡◌, ◌≢◌, ℕ, zero, suc, ◌+◌, ◌-◌, ◌⊎◌, ◌&&◌, Bool, true, false, not, cond, List, [], ◌∷◌, ◌++◌, length, map, take, Some, None, inl, inr, refl, sym, ap, subst, ◌∙◌, arith}
use Rattle.std.specs.Prelude.{Option, option_and_then, slice_get}
use Rattle.std.specs.List.{filter, flat_map, list_any, range_with_len}
use Rattle.std.proofs.lemmas.Bool.{and_from, and_parts, cases_Bool, false≢true, not-false, or_cases, or_left, or_right}
use Rattle.std.proofs.lemmas.List.{map-append}
use Rattle.fm_base.specs.Resolution.{AreDistinct, Has}
use Rattle.fm_base.specs.declared.ids.Reader.{Reader}
use Rattle.fm_base.proofs.Resolution.{mapped_has}
use Rattle.fm_bank.specs.Closure.{AreApart, Follows, Shape, facts_of, no, object, yes}
use Rattle.fm_bank.specs.Interning.{atom_number, find_atom, first_places}
use Rattle.fm_bank.specs.Tests.{Tests}
use Rattle.fm_bank.specs.declared.atom.Atom.{Atom}
use Rattle.fm_bank.specs.declared.literal.Literal.{Literal}
use Rattle.fm_bank.proofs.Closures.{more_follows}
use Rattle.fm_bank.proofs.Once.{one_atom}
use Rattle.fm_rounds.proofs.Members.{any_in, filter_in, flat_in, in_any, in_either, in_filter, in_flat, in_left, in_right}
use Rattle.fm_trail.specs.declared.entry.Entry.{Entry}
use Rattle.fm_trail.specs.Trail.{is_value, value_of}
use Rattle.fm_trail.proofs.Literals.{false_by}
use Rattle.fm_steps.specs.Content.{AreTestsBy, ShowsEquality, all_shapes, decides, equal_pair, facts_in, has_clash, is_size, literal_at, literals_of, opposites, pairs_in, predicate_term, terms_in}
use Rattle.fm_steps.specs.Facts.{IsLawful, PicksAreKnown}
use Rattle.fm_steps.specs.Lemmas.{Due, FalseOrUnit, IsDue, IsUnitLemma, are_known, bound_order, bounds_from, card_order, is_false_lemma, is_known, is_sum_due, literal_fails, sum_literals}
use Rattle.fm_steps.specs.Lines.{IsWellHeld}
use Rattle.fm_steps.specs.Menu.{bound_order_at, bound_orders, by_open, card_order_at, card_orders, clique_offer, clique_offer_of, cliques_from, congruence_offers, first_lemmas, lemmas_of, offer_for, open_literals, readers, sum_offers_at, values_at}
use Rattle.fm_steps.specs.Offered.{ImplyIsDue, IsOfferedLemma, LemmaIsDue, PicksHold}
use Rattle.fm_steps.specs.Picks.{IsKnown, Known, clique_lemma, clique_literals, pair_literals, pick_literals, read_literals}
use Rattle.fm_steps.specs.Rows.{Offer}
use Rattle.fm_steps.specs.Sizes.{card, greatest_false, holds, is_unvalued, lit, numbers_with}
use Rattle.fm_steps.specs.State.{Pick, Problem, State, read_by, value_by}
use Rattle.fm_steps.proofs.Bounded.{reached_bounded}
use Rattle.fm_steps.proofs.Distinct.{places_distinct}
use Rattle.fm_steps.proofs.Due.{all_in, in_all}
use Rattle.fm_steps.proofs.InRow.{greatest_in, has_known, holds_known, of_numbers, with_parts}
use Rattle.fm_steps.proofs.Lists.{Has-append, Has-contains, Has-get, Has-take, all_has, contains_has, only_one}
use Rattle.fm_steps.proofs.Menus.{at_three}
use Rattle.fm_steps.proofs.Numbers.{get_place, known_any}
use Rattle.fm_steps.proofs.Offered.{found_number, reached_hold}
use Rattle.fm_steps.proofs.Repeats.{clique_distinct, order_distinct, shows_more, sum_distinct}
use Rattle.fm_steps.proofs.Rising.{PicksRise, reached_rise}
use Rattle.fm_steps.proofs.Runs.{runs_stay_held}
use Rattle.fm_steps.proofs.Written.{has_place, placed_same}

none_passes : {X : Type 0} (p : X → Bool) (xs : List X) (x : X) → filter p xs ≡ [] → Has xs x → p x ≡ false
none_passes {X} p xs x e h =
    elim (cases_Bool (p x)) [
      | inl t ↦ absurd (subst (λ (ys : List X). Has ys x) e (filter_in p x xs h t))
      | inr f ↦ f
    ]

-- Opposites, and what more literals relate.
not-not : (b : Bool) → not (not b) ≡ b
not-not true = refl
not-not false = refl

twice : (ls : List Literal) → opposites (opposites ls) ≡ ls
twice [] = refl
twice (l ∷ ls) = λ i. record { positive = not-not l.positive i; atom = l.atom } ∷ twice ls i

facts_more : (P P' : List (ℕ × ℕ)) (T T' F F' : List ℕ) (x : ℕ × ℕ) → Has (facts_of P T F) x → Has (facts_of (P' ++ P) (T' ++ T) (F' ++ F)) x
facts_more P P' T T' F F' x h =
    let f : ℕ × ℕ → ℕ × ℕ = λ p. (object p.0, object p.1) in
    let g : ℕ → ℕ × ℕ = λ t. (object t, yes) in
    let j : ℕ → ℕ × ℕ = λ t. (object t, no) in
    elim (in_either x (map f P) (map g T ++ map j F) h) [
      | inl q ↦ in_left x (map f (P' ++ P)) _ (subst (λ (l : List (ℕ × ℕ)). Has l x) (sym (map-append f P' P)) (in_right x (map f P') (map f P) q))
      | inr r ↦ in_right x (map f (P' ++ P)) _ (elim (in_either x (map g T) (map j F) r) [
        | inl q ↦ in_left x (map g (T' ++ T)) _ (subst (λ (l : List (ℕ × ℕ)). Has l x) (sym (map-append g T' T)) (in_right x (map g T') (map g T) q))
        | inr q ↦ in_right x (map g (T' ++ T)) _ (subst (λ (l : List (ℕ × ℕ)). Has l x) (sym (map-append j F' F)) (in_right x (map j F') (map j F) q))
      ])
    ]

more_read : (shapes : List Shape) (l : Literal) (read : List Literal) (x y : ℕ) → Follows shapes (facts_in read) x y → Follows shapes (facts_in (l ∷ read)) x y
more_read shapes l read x y h =
    more_follows shapes (facts_in read) shapes (facts_in (l ∷ read)) (λ z c. c) (λ z c. Has-contains (facts_in (l ∷ read)) z (facts_more (pairs_in true read) (equal_pair true l.positive l.atom) (terms_in true read) (predicate_term true l.positive l.atom) (terms_in false read) (predicate_term false l.positive l.atom) z (contains_has (facts_in read) z c))) x y h

pub follows_sym : (shapes : List Shape) (facts : List (ℕ × ℕ)) (x y : ℕ) → Follows shapes facts x y → Follows shapes facts y x
follows_sym shapes facts x y h R c = c.symmetric x y (h R c)

pub follows_trans : (shapes : List Shape) (facts : List (ℕ × ℕ)) (x y z : ℕ) → Follows shapes facts x y → Follows shapes facts y z → Follows shapes facts x z
follows_trans shapes facts x y z h k R c = c.transitive x y z (h R c) (k R c)

pub fact_follows : (shapes : List Shape) (facts : List (ℕ × ℕ)) (x y : ℕ) → Has facts (x, y) → Follows shapes facts x y
fact_follows shapes facts x y h R c = all_has (λ (p : ℕ × ℕ). R p.0 p.1 ≡ true) facts (x, y) c.facts_hold h

-- sides that are apart and joined make a clash
pub apart_clash : (shapes : List Shape) (facts more : List (ℕ × ℕ)) (same : ℕ → ℕ → Bool) (a b : ℕ) → ((x y : ℕ) → Follows shapes facts x y → Follows shapes more x y) → ((x y : ℕ) → Follows shapes more x y → same x y ≡ true) → Follows shapes more (object a) (object b)
    → (ps : List (ℕ × ℕ)) → AreApart shapes facts ps a b → list_any (λ (p : ℕ × ℕ). same (object p.0) (object p.1)) ps ≡ true
apart_clash shapes facts more same a b on tells ab [] h = absurd h
apart_clash shapes facts more same a b on tells ab (p ∷ ps) (inl (inl q)) =
    or_left (same (object p.0) (object p.1)) _ (tells (object p.0) (object p.1) (follows_trans shapes more (object p.0) (object a) (object p.1) (follows_sym shapes more (object a) (object p.0) (on (object a) (object p.0) q.0)) (follows_trans shapes more (object a) (object b) (object p.1) ab (on (object b) (object p.1) q.1))))
apart_clash shapes facts more same a b on tells ab (p ∷ ps) (inl (inr q)) =
    or_left (same (object p.0) (object p.1)) _ (tells (object p.0) (object p.1) (follows_trans shapes more (object p.0) (object b) (object p.1) (follows_sym shapes more (object b) (object p.0) (on (object b) (object p.0) q.0)) (follows_trans shapes more (object b) (object a) (object p.1) (follows_sym shapes more (object a) (object b) ab) (on (object a) (object p.1) q.1))))
apart_clash shapes facts more same a b on tells ab (p ∷ ps) (inr h) = or_right (same (object p.0) (object p.1)) _ (apart_clash shapes facts more same a b on tells ab ps h)

any_implied : {X : Type 0} (p q : X → Bool) → ((x : X) → p x ≡ true → q x ≡ true) → (xs : List X) → list_any p xs ≡ true → list_any q xs ≡ true
any_implied p q i xs h = let w = any_in p xs h in in_any q xs w.0 w.1 (i w.0 w.2)

module _ (s : State) (k : Known) (is : IsKnown s k) where
  abbrev read : List Literal
  read = read_literals Reader.Congruence s

  abbrev shapes : List Shape
  shapes = all_shapes s.held

  tells : (x y : ℕ) → k.congruence.same x y ≡ true → Follows shapes (facts_in read) x y
  tells x y e = (is.congruence.same_is x y).0 e

  -- a clash is shown by all that was read
  clash_by : (t : Tests) → AreTestsBy s.held read t → has_clash read k.congruence ≡ true → has_clash read t ≡ true
  clash_by t h e =
      let more : (x y : ℕ) → k.congruence.same x y ≡ true → t.same x y ≡ true = λ x y q. (h.same_is x y).1 (tells x y q) in
      elim (or_cases (k.congruence.same yes no) (list_any (λ (p : ℕ × ℕ). k.congruence.same (object p.0) (object p.1)) (pairs_in false read)) e) [
        | inl q ↦ or_left (t.same yes no) _ (more yes no q)
        | inr q ↦ or_right (t.same yes no) _ (any_implied (λ (p : ℕ × ℕ). k.congruence.same (object p.0) (object p.1)) (λ (p : ℕ × ℕ). t.same (object p.0) (object p.1)) (λ p r. more (object p.0) (object p.1) r) (pairs_in false read) q)
      ]

  shows_clash : has_clash read k.congruence ≡ true → ShowsEquality s.held (opposites read)
  shows_clash e t h = subst (λ (ls : List Literal). has_clash ls t ≡ true) (sym (twice read)) (clash_by t (subst (λ (ls : List Literal). AreTestsBy s.held ls t) (twice read) h) e)

  -- a value is shown by its opposite with all that was read
  value_by_read : (a : Atom) (v : Bool) (t : Tests) → decides k.congruence a v ≡ true → AreTestsBy s.held (lit (not v) a ∷ read) t → has_clash (lit (not v) a ∷ read) t ≡ true
  value_by_read (Atom.Equal x y) true t e h =
      or_right (t.same yes no) _ (or_left (t.same (object x.0) (object y.0)) _ ((h.same_is (object x.0) (object y.0)).1 (more_read shapes (lit false (Atom.Equal x y)) read (object x.0) (object y.0) (tells (object x.0) (object y.0) e))))
  value_by_read (Atom.Equal x y) false t e h =
      or_right (t.same yes no) _ (apart_clash shapes (facts_in read) (facts_in (lit true (Atom.Equal x y) ∷ read)) t.same x.0 y.0 (λ u w q. more_read shapes (lit true (Atom.Equal x y)) read u w q) (λ u w q. (h.same_is u w).1 q)
      (fact_follows shapes (facts_in (lit true (Atom.Equal x y) ∷ read)) (object x.0) (object y.0) (inl refl)) (pairs_in false read) ((is.congruence.apart_is x.0 y.0).0 e))
  value_by_read (Atom.Pred q) true t e h =
      let l = lit false (Atom.Pred q) in
      let facts = facts_in (l ∷ read) in
      let to_no = fact_follows shapes facts (object q.0) no (in_right (object q.0, no) (map (λ (p : ℕ × ℕ). (object p.0, object p.1)) (pairs_in true read)) _ (in_right (object q.0, no) (map (λ u. (object u, yes)) (terms_in true read)) _ (inl refl))) in
      let to_yes = more_read shapes l read (object q.0) yes (tells (object q.0) yes e) in
      or_left (t.same yes no) _ ((h.same_is yes no).1 (follows_trans shapes facts yes (object q.0) no (follows_sym shapes facts (object q.0) yes to_yes) to_no))
  value_by_read (Atom.Pred q) false t e h =
      let l = lit true (Atom.Pred q) in
      let facts = facts_in (l ∷ read) in
      let to_yes = fact_follows shapes facts (object q.0) yes (in_right (object q.0, yes) (map (λ (p : ℕ × ℕ). (object p.0, object p.1)) (pairs_in true read)) _ (inl refl)) in
      let to_no = more_read shapes l read (object q.0) no (tells (object q.0) no e) in
      or_left (t.same yes no) _ ((h.same_is yes no).1 (follows_trans shapes facts yes (object q.0) no (follows_sym shapes facts (object q.0) yes to_yes) to_no))
  value_by_read (Atom.Card u j) v t e h = absurd (false≢true e)
  value_by_read (Atom.Bound n) v t e h = absurd (false≢true e)

  shows_value : (a : Atom) (v : Bool) → decides k.congruence a v ≡ true → ShowsEquality s.held (lit v a ∷ opposites read)
  shows_value a v e t h =
      let same : opposites (lit v a ∷ opposites read) ≡ lit (not v) a ∷ read = ap (λ (ls : List Literal). lit (not v) a ∷ ls) (twice read) in
      subst (λ (ls : List Literal). has_clash ls t ≡ true) (sym same) (value_by_read a v t e (subst (λ (ls : List Literal). AreTestsBy s.held ls t) same h))

-- what was read is known, and its opposites fail
pub entry_literal : (positive : Bool) (o : Option Atom) (l : Literal) → Has (literal_at positive o) l → (o ≡ Some l.atom) × (positive ≡ l.positive)
entry_literal positive None l h = absurd h
entry_literal positive (Some a) l h = let e = only_one (record { positive = positive; atom = a }) l h in (ap (λ (x : Literal). Some x.atom) e, ap (λ (x : Literal). x.positive) e)

module _ (p : Problem) (s : State) (lawful : IsLawful p s) (held : IsWellHeld p s) where
  pub number_of_place : (n : ℕ) (a : Atom) → slice_get s.held.atoms n ≡ Some a → find_atom s.held.atoms a ≡ Some n
  number_of_place n a at =
      let has = Has-get s.held.atoms n a at in
      let place = get_place s.held.atoms a (known_any s.held.atoms a (has_known s.held.atoms a has)) in
      found_number s.held.atoms a has ∙ ap Some (one_atom s.held.sig s.held.terms s.held.atoms held.held.atoms_good (atom_number s.held.atoms a) n a place at)

  read_fails : (r : Reader) (l : Literal) → Has (opposites (read_literals r s)) l → (is_known s l.atom ≡ true) × (literal_fails s l ≡ true)
  read_fails r l h =
      let w = mapped_has (λ (x : Literal). record { positive = not x.positive; atom = x.atom }) (read_literals r s) l h in
      let g = (in_filter (λ (x : Literal). not (is_size x.atom)) w.lit (literals_of s.held.atoms (read_by r s)) w.has).0 in
      let e = in_flat (λ (x : Entry). literal_at x.lit.positive (slice_get s.held.atoms x.lit.atom.0)) w.lit (read_by r s) g in
      let parts = entry_literal e.0.lit.positive (slice_get s.held.atoms e.0.lit.atom.0) w.lit e.2 in
      let at = has_place s.trail.entries e.0 (Has-take _ s.trail.entries e.0 e.1) in
      let false' = false_by s.trail.entries at.0 e.0 lawful.trail.once at.1 in
      let found = number_of_place e.0.lit.atom.0 w.lit.atom parts.0 in
      let value : holds s (not (not w.lit.positive)) w.lit.atom ≡ true = subst (λ (o : Option ℕ). is_value (option_and_then (value_by s.trail.entries) o) (not (not w.lit.positive)) ≡ true) (sym found) (subst (λ (b : Bool). is_value (value_of s.trail.entries e.0.lit.atom) (not (not b)) ≡ true) parts.1 false') in (
        subst (λ (x : Literal). is_known s x.atom ≡ true) w.is (has_known s.held.atoms w.lit.atom (Has-get s.held.atoms e.0.lit.atom.0 w.lit.atom parts.0)),
        subst (λ (x : Literal). literal_fails s x ≡ true) w.is value,
      )

-- what an offer of a lemma promises
abbrev Promises : State → Known → Offer → Type 0
Promises s k (Offer.Lemma r d) = IsOfferedLemma s k r d (λ ls. is_false_lemma s ls ≡ true)
Promises s k (Offer.Imply r d) = IsOfferedLemma s k r d (λ ls. (l : Literal) × IsUnitLemma s ls l)
Promises s k o = Unit {0}

module _ (p : Problem) (s : State) (k : Known) (is : IsKnown s k) (lawful : IsLawful p s) (held : IsWellHeld p s) (picks : PicksAreKnown s) (holding : PicksHold s) (rising : PicksRise s) where
  abbrev AllFit : List Offer → Type 0
  AllFit xs = (o : Offer) → Has xs o → Promises s k o

  none : AllFit []
  none o q = absurd q

  one : (x : Offer) → Promises s k x → AllFit (x ∷ [])
  one x q o (inl e) = subst (Promises s k) e q
  one x q o (inr r) = absurd r

  joined : (xs ys : List Offer) → AllFit xs → AllFit ys → AllFit (xs ++ ys)
  joined xs ys a b o q = elim (Has-append xs ys o q) [ inl r ↦ a o r | inr r ↦ b o r ]

  when : (c : Bool) (xs ys : List Offer) → (c ≡ true → AllFit xs) → (c ≡ false → AllFit ys) → AllFit (cond c xs ys)
  when true xs ys a b = a refl
  when false xs ys a b = b refl

  mapped : {X : Type 0} (f : X → List Offer) (xs : List X) → ((x : X) → Has xs x → AllFit (f x)) → AllFit (flat_map f xs)
  mapped f [] q = none
  mapped f (x ∷ xs) q = joined (f x) (flat_map f xs) (q x (inl refl)) (mapped f xs (λ y r. q y (inr r)))

  -- a lemma whose literals are given
  module _ (r : Reader) (d : Due) (ls0 : List Literal) (distinct0 : AreDistinct ls0) (known0 : are_known s ls0 ≡ true) (due0 : FalseOrUnit s ls0 → IsDue s k r d ls0) (only : (ls : List Literal) → IsDue s k r d ls → ls ≡ ls0) where
    promised : (Asks : List Literal → Type 0) → FalseOrUnit s ls0 → Asks ls0 → IsOfferedLemma s k r d Asks
    promised Asks f a = record {
      lits = ls0;
      due = due0 f;
      distinct = distinct0;
      known = λ ls h. subst (λ (x : List Literal). are_known s x ≡ true) (sym (only ls h)) known0;
      asks = λ ls h. subst Asks (sym (only ls h)) a;
    }

    by_fit : (os : List Literal) → open_literals s ls0 ≡ os → AllFit (by_open s r d os)
    by_fit [] e =
        let all : is_false_lemma s ls0 ≡ true = in_all (literal_fails s) ls0 (λ l q. not-false (literal_fails s l) (none_passes (λ (x : Literal). not (literal_fails s x)) ls0 l e q)) in
        one (Offer.Lemma r d) (promised (λ ls. is_false_lemma s ls ≡ true) (inl all) all)
    by_fit (l ∷ []) e = when (is_unvalued s l.atom) (Offer.Imply r d ∷ []) [] (λ u. one (Offer.Imply r d) (let w = unit_at u in promised (λ ls. (m : Literal) × IsUnitLemma s ls m) (inr (l, w)) (l, w))) (λ u. none)
      where
        unit_at : is_unvalued s l.atom ≡ true → IsUnitLemma s ls0 l
        unit_at u = record {
          has = (in_filter (λ (x : Literal). not (literal_fails s x)) l ls0 (subst (λ (xs : List Literal). Has xs l) (sym e) (inl refl))).0;
          unset = u;
          others = λ m q ne. elim (cases_Bool (literal_fails s m)) [
            | inl t ↦ t
            | inr f ↦ absurd (ne (sym (only_one l m (subst (λ (xs : List Literal). Has xs m) e (filter_in (λ (x : Literal). not (literal_fails s x)) m ls0 q (ap not f))))))
          ];
        }
    by_fit (l ∷ (m ∷ ms)) e = none

    offer_fit : AllFit (offer_for s r d ls0)
    offer_fit = by_fit (open_literals s ls0) refl

  -- to Congruence
  read_known : (l : Literal) → Has (opposites (read_literals Reader.Congruence s)) l → is_known s l.atom ≡ true
  read_known l h = (read_fails p s lawful held Reader.Congruence l h).0

  read_false : (l : Literal) → Has (opposites (read_literals Reader.Congruence s)) l → literal_fails s l ≡ true
  read_false l h = (read_fails p s lawful held Reader.Congruence l h).1

  clash_fit : has_clash (read_literals Reader.Congruence s) k.congruence ≡ true → Promises s k (Offer.Lemma Reader.Congruence Due.Clash)
  clash_fit e =
      let all = opposites (read_literals Reader.Congruence s) in
      record {
        lits = first_places [] all;
        due = record { clash = e; read = λ l h. (placed_same all l).0 h; shows = shows_more s.held all (first_places [] all) (λ l h. (placed_same all l).1 h) (shows_clash s k is e) };
        distinct = places_distinct all;
        known = λ ls h. in_all (λ (l : Literal). is_known s l.atom) ls (λ l q. read_known l (h.read l q));
        asks = λ ls h. in_all (literal_fails s) ls (λ l q. read_false l (h.read l q));
      }

  other_read : (a : Atom) (v : Bool) (l : Literal) → (l ≡ lit v a) ⊎ Has (opposites (read_literals Reader.Congruence s)) l → l ≢ lit v a → literal_fails s l ≡ true
  other_read a v l (inl e) ne = absurd (ne e)
  other_read a v l (inr h) ne = read_false l h

  value_known : (a : Atom) (v : Bool) (l : Literal) → is_known s a ≡ true → (l ≡ lit v a) ⊎ Has (opposites (read_literals Reader.Congruence s)) l → is_known s l.atom ≡ true
  value_known a v l known (inl e) = ap (λ (x : Literal). is_known s x.atom) e ∙ known
  value_known a v l known (inr h) = read_known l h

  begins : (a : Atom) (v : Bool) (l : Literal) → Has (lit v a ∷ opposites (read_literals Reader.Congruence s)) l → (l ≡ lit v a) ⊎ Has (opposites (read_literals Reader.Congruence s)) l
  begins a v l (inl e) = inl (sym e)
  begins a v l (inr h) = inr h

  value_fit : (a : Atom) (v : Bool) → Has s.held.atoms a → is_unvalued s a ≡ true → decides k.congruence a v ≡ true → Promises s k (Offer.Imply Reader.Congruence (Due.Value a v))
  value_fit a v has u e =
      let known = has_known s.held.atoms a has in
      let all = lit v a ∷ opposites (read_literals Reader.Congruence s) in
      let ls = first_places [] all in
      record {
        lits = ls;
        due = record { known = known; unset = u; decided = e; has = (placed_same all (lit v a)).1 (inl refl); read = λ l h. begins a v l ((placed_same all l).0 h); shows = shows_more s.held all ls (λ l h. (placed_same all l).1 h) (shows_value s k is a v e) };
        distinct = places_distinct all;
        known = λ ls h. in_all (λ (l : Literal). is_known s l.atom) ls (λ l q. value_known a v l known (h.read l q));
        asks = λ ls h. (lit v a, record { has = h.has; unset = u; others = λ l q ne. other_read a v l (h.read l q) ne });
      }

  values_fit : (a : Atom) → Has s.held.atoms a → AllFit (values_at s k a)
  values_fit a has =
      when (is_unvalued s a && decides k.congruence a true) _ _
      (λ e. let q = and_parts (is_unvalued s a) (decides k.congruence a true) e in one _ (value_fit a true has q.0 q.1))
      (λ f. when (is_unvalued s a && decides k.congruence a false) _ [] (λ e. let q = and_parts (is_unvalued s a) (decides k.congruence a false) e in one _ (value_fit a false has q.0 q.1)) (λ g. none))

  congruence_fit : AllFit (congruence_offers s k)
  congruence_fit = joined _ _ (when (has_clash (read_literals Reader.Congruence s) k.congruence) _ [] (λ e. one _ (clash_fit e)) (λ e. none)) (mapped (values_at s k) s.held.atoms values_fit)

  -- to Regions
  true_known : (a : Atom) (v : Bool) → holds s v a ≡ true → is_known s a ≡ true
  true_known a v h = holds_known s a v (find_atom s.held.atoms a) refl h

  same_pick : (u : ℕ) (x y : Pick) → slice_get s.picks u ≡ Some (Some x) → slice_get s.picks u ≡ Some (Some y) → y ≡ x
  same_pick u x y e f = let q : Some (Some y) ≡ Some (Some x) = sym f ∙ e in cc q

  pairs_known : (u : ℕ) (pick : Pick) → slice_get s.picks u ≡ Some (Some pick) → pick.pair ≡ None → (l : Literal) → Has (pair_literals pick.terms) l → is_known s l.atom ≡ true
  pairs_known u pick at pair l h =
      let here : Has (pick_literals (Some pick)) l = subst (λ (o : Option (ℕ × ℕ)). Has (clique_literals o pick.terms) l) (sym pair) h in
      all_in (λ (x : Literal). is_known s x.atom) (flat_map pick_literals s.picks) l picks (flat_in pick_literals l s.picks (Some pick) (Has-get s.picks u (Some pick) at) here)

  clique_known : (u : ℕ) (pick : Pick) → slice_get s.picks u ≡ Some (Some pick) → pick.pair ≡ None → are_known s (clique_lemma u pick.terms) ≡ true
  clique_known u pick at pair = and_from (is_known s (card u (length pick.terms - 1))) _ (true_known (card u (length pick.terms - 1)) true (holding u pick at)) (in_all (λ (x : Literal). is_known s x.atom) (pair_literals pick.terms) (pairs_known u pick at pair))

  clique_of_fit : (u : ℕ) (pick : Pick) (o : Option (ℕ × ℕ)) → pick.pair ≡ o → slice_get s.picks u ≡ Some (Some pick) → AllFit (clique_offer_of s u pick.terms o)
  clique_of_fit u pick None e at = offer_fit Reader.Regions (Due.Clique u) (clique_lemma u pick.terms) (clique_distinct u pick.terms (rising u pick at)) (clique_known u pick at e) (λ f. record { pick = pick; there = at; clique = e; is = refl }) (λ ls h. h.is ∙ ap (λ (x : Pick). clique_lemma u x.terms) (same_pick u pick h.pick at h.there))
  clique_of_fit u pick (Some q) e at = none

  clique_fit : (u : ℕ) (q : Option Pick) → slice_get s.picks u ≡ Some q → AllFit (clique_offer s u q)
  clique_fit u None at = none
  clique_fit u (Some pick) at = clique_of_fit u pick pick.pair refl at

  cliques_fit : (v : ℕ) (ps : List (Option Pick)) → ((i : ℕ) (q : Option Pick) → slice_get ps i ≡ Some q → slice_get s.picks (v + i) ≡ Some q) → AllFit (cliques_from s v ps)
  cliques_fit v [] at = none
  cliques_fit v (q ∷ ps) at =
      let here : slice_get s.picks v ≡ Some q = (let z : v + 0 ≡ v = omega arith in subst (λ n. slice_get s.picks n ≡ Some q) z (at 0 q refl)) in
      joined (clique_offer s v q) (cliques_from s (v + 1) ps) (clique_fit v q here) (cliques_fit (v + 1) ps (λ i x e. let z : v + suc i ≡ v + 1 + i = omega arith in subst (λ n. slice_get s.picks n ≡ Some x) z (at (suc i) x e)))

  -- to Sum
  sum_known : (v n : ℕ) (ks : List ℕ) → bounds_from s v n ≡ Some ks → is_known s (Atom.Bound s.bound) ≡ true → are_known s (sum_literals s v ks) ≡ true
  sum_known v zero ks e b = let empty : [] ≡ ks = cc e in subst (λ (js : List ℕ). are_known s (sum_literals s v js) ≡ true) empty (and_from (is_known s (Atom.Bound s.bound)) true b refl)
  sum_known v (suc n) ks e b =
      let w = with_parts (greatest_false s v) (bounds_from s (v + 1) n) ks e in
      let here = true_known (card v w.0) false (of_numbers s false v w.0 (greatest_in (numbers_with s false v) w.0 w.2)) in
      subst (λ (js : List ℕ). are_known s (sum_literals s v js) ≡ true) (sym w.4) (and_from (is_known s (card v w.0)) _ here (sum_known (v + 1) n w.1 w.3 b))

  same_bounds : (ks js : List ℕ) → bounds_from s 0 s.held.sig.sorts ≡ Some ks → bounds_from s 0 s.held.sig.sorts ≡ Some js → js ≡ ks
  same_bounds ks js e f = let q : Some js ≡ Some ks = sym f ∙ e in cc q

  sum_fit : (o : Option (List ℕ)) → bounds_from s 0 s.held.sig.sorts ≡ o → AllFit (sum_offers_at s o)
  sum_fit None e = none
  sum_fit (Some ks) e =
      when (is_sum_due s (Some ks)) _ []
      (λ due. offer_fit Reader.Sum Due.SumBound (sum_literals s 0 ks) (sum_distinct s 0 ks) (sum_known 0 s.held.sig.sorts ks e (true_known (Atom.Bound s.bound) true (and_parts _ (holds s true (Atom.Bound s.bound)) due).1)) (λ f. record { ks = ks; bounds = e; due = due; is = refl }) (λ ls h. h.is ∙ ap (sum_literals s 0) (same_bounds ks h.ks e h.bounds)))
      (λ f. none)

  order_known : (a b : Atom) → (is_known s a && is_known s b) ≡ true → are_known s (lit false a ∷ (lit true b ∷ [])) ≡ true
  order_known a b e = let q = and_parts (is_known s a) (is_known s b) e in and_from (is_known s a) _ q.0 (and_from (is_known s b) true q.1 refl)

  card_fit : (u j : ℕ) → AllFit (card_order_at s u j)
  card_fit u j =
      when (is_known s (card u j) && is_known s (card u (j + 1))) _ []
      (λ e. let known = order_known (card u j) (card u (j + 1)) e in offer_fit Reader.Sum (Due.CardOrder u j) (card_order u j) (order_distinct (card u j) (card u (j + 1))) known (λ f. record { is = refl; known = known; asks = f }) (λ ls h. h.is))
      (λ e. none)

  bound_fit : (n : ℕ) → AllFit (bound_order_at s n)
  bound_fit n =
      when (is_known s (Atom.Bound n) && is_known s (Atom.Bound (n + 1))) _ []
      (λ e. let known = order_known (Atom.Bound n) (Atom.Bound (n + 1)) e in offer_fit Reader.Sum (Due.BoundOrder n) (bound_order n) (order_distinct (Atom.Bound n) (Atom.Bound (n + 1))) known (λ f. record { is = refl; known = known; asks = f }) (λ ls h. h.is))
      (λ e. none)

  lemmas_fit : (r : Reader) → AllFit (lemmas_of s k r)
  lemmas_fit Reader.Congruence = congruence_fit
  lemmas_fit Reader.Regions = cliques_fit 0 s.picks (λ i q e. let z : 0 + i ≡ i = omega arith in subst (λ n. slice_get s.picks n ≡ Some q) (sym z) e)
  lemmas_fit Reader.Sum = joined _ _ (sum_fit (bounds_from s 0 s.held.sig.sorts) refl) (joined (card_orders s) (bound_orders s) (mapped _ (range_with_len 0 s.held.sig.sorts) (λ u q. mapped (card_order_at s u) (range_with_len 0 (length s.held.atoms)) (λ j w. card_fit u j))) (mapped (bound_order_at s) (range_with_len 0 s.bound) (λ n q. bound_fit n)))
  lemmas_fit Reader.Instances = none

  firsts_fit : AllFit (first_lemmas s k)
  firsts_fit = mapped (λ r. take 1 (lemmas_of s k r)) readers (λ r q o h. lemmas_fit r o (Has-take 1 (lemmas_of s k r) o h))

pub lemma_is_due : LemmaIsDue
lemma_is_due p b events s k r d sorted h is offered =
    let g = (reached_bounded p b events s h).good in
    firsts_fit p s k is g.lawful (runs_stay_held p b events s sorted h) g.picks (reached_hold p b events s h) (reached_rise p b events s h) (Offer.Lemma r d) (at_three p s k (Offer.Lemma r d) refl offered)

pub imply_is_due : ImplyIsDue
imply_is_due p b events s k r d sorted h is offered =
    let g = (reached_bounded p b events s h).good in
    firsts_fit p s k is g.lawful (runs_stay_held p b events s sorted h) g.picks (reached_hold p b events s h) (reached_rise p b events s h) (Offer.Imply r d) (at_three p s k (Offer.Imply r d) refl offered)
