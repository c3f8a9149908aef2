-- The tests that are chosen have at least one term, and all of the sort.
use Rattle.std.proofs.Common.{◌≡◌, ℕ, zero, suc, ◌+◌, ◌<◌, ◌&&◌, ◌||◌, ◌==◌, not, min, max, Bool, true, false, cond, List, [], ◌∷◌, length, map, Some, None, inl, inr, refl, sym, ap, subst, ◌∙◌, arith}
use Rattle.std.specs.Prelude.{Option, slice_get}
use Rattle.std.specs.List.{All, filter, list_any, range_with_len}
use Rattle.std.proofs.lemmas.Bool.{and_parts, eq-eqb, false≢true}
use Rattle.std.proofs.lemmas.List.Elements.{All-append, All-drop, All-set, All-take}
use Rattle.std.proofs.lemmas.List.Quantifiers.{position-Some}
use Rattle.std.proofs.lemmas.Slice.Eq.{bytes_eq-Decides}
use Rattle.fm_base.specs.Resolution.{Has}
use Rattle.fm_base.proofs.Resolution.{mapped_has}
use Rattle.fm_bank.specs.Interning.{Held}
use Rattle.fm_bank.specs.Regions.{after_join, after_meeting, after_opening, closed, closed_within, first_large, first_open, first_touching, grown_regions, grown_within, is_closed_at, is_in, is_large, joined, must_grow, region_at, regions_at, touches}
use Rattle.fm_bank.specs.Tests.{Tests}
use Rattle.fm_rounds.proofs.Candidates.{found_in}
use Rattle.fm_rounds.proofs.Members.{in_filter, in_range}
use Rattle.fm_steps.specs.Content.{classes_of, is_oldest, is_term_of_sort}
use Rattle.fm_steps.specs.Lines.{IsPickOfSort}
use Rattle.fm_steps.specs.Picks.{ArePicks, IsPickAt, IsTest, is_sublist}
use Rattle.fm_steps.specs.Sizes.{least_true, sort}
use Rattle.fm_steps.specs.State.{Pick, State}
use Rattle.fm_steps.proofs.Due.{in_all}
use Rattle.fm_steps.proofs.Lists.{all_from, all_has}

-- what joins keep, closing keeps
module _ (Q : List (List ℕ) → Type 0) (apart : ℕ → ℕ → Bool) (classes : List ℕ) (k : ℕ) (keeps : (rs : List (List ℕ)) (i j : ℕ) → i < length rs → j < length rs → (i ≡ j → ⊥) → Q rs → Q (after_join classes rs i j)) where
  meeting : (onward : List (List ℕ) → List (List ℕ)) → ((rs : List (List ℕ)) → Q rs → Q (onward rs)) → (rs : List (List ℕ)) (i : ℕ) (o : Option ℕ) → i < length rs → first_touching apart rs i ≡ o → Q rs → Q (after_meeting classes onward rs i o)
  meeting onward go rs i None lt e h = h
  meeting onward go rs i (Some j) lt e h =
      let f = found_in (λ m. not (m == i) && touches apart (region_at rs i) (region_at rs m)) (range_with_len 0 (length rs)) j e in
      let below = (in_range j 0 (length rs) f.0).1 in
      let other = (and_parts (not (j == i)) (touches apart (region_at rs i) (region_at rs j)) f.1).0 in
      go (after_join classes rs i j) (keeps rs i j lt (omega (arith, below)) (λ same. false≢true (sym (ap not (eq-eqb j i (sym same))) ∙ other)) h)

  opening : (onward : List (List ℕ) → List (List ℕ)) → ((rs : List (List ℕ)) → Q rs → Q (onward rs)) → (rs : List (List ℕ)) (o : Option ℕ) → first_open apart classes k rs ≡ o → Q rs → Q (after_opening apart classes onward rs o)
  opening onward go rs None e h = h
  opening onward go rs (Some i) e h = meeting onward go rs i (first_touching apart rs i) (position-Some (λ r. not (is_closed_at apart classes k r)) rs i [] e).0 refl h

  pub closing : (n : ℕ) (rs : List (List ℕ)) → Q rs → Q (closed_within apart classes k n rs)
  unfolding closed_within
  closing zero rs h = h
  closing (suc n) rs h = opening (closed_within apart classes k n) (closing n) rs (first_open apart classes k rs) refl h

-- what holds of each class by itself and of joined regions holds of the grown regions
module _ (P : List ℕ → Type 0) (apart : ℕ → ℕ → Bool) (classes : List ℕ) (k : ℕ) (both : (r s : List ℕ) → P (joined classes r s)) where
  join_all : (rs : List (List ℕ)) (i j : ℕ) → All P rs → All P (after_join classes rs i j)
  join_all rs i j h =
      let one = joined classes (region_at rs i) (region_at rs j) in
      let set = All-set P rs (min i j) one (both (region_at rs i) (region_at rs j)) h in
      All-append P _ _ (All-take P (max i j) _ set) (All-drop P (suc (max i j)) _ set)

  closing_all : (n : ℕ) (rs : List (List ℕ)) → All P rs → All P (closed_within apart classes k n rs)
  closing_all n rs h = closing (λ rs. All P rs) apart classes k (λ rs i j il jl ne. join_all rs i j) n rs h

  either : (b : Bool) (rs ss : List (List ℕ)) → All P rs → All P ss → All P (cond b rs ss)
  either true rs ss h g = h
  either false rs ss h g = g

  growing : (n : ℕ) (rs : List (List ℕ)) → All P rs → All P (grown_within apart classes k n rs)
  unfolding grown_within
  growing zero rs h = h
  growing (suc n) rs h =
      let next = after_join classes rs 0 1 in
      either (must_grow classes k rs) (grown_within apart classes k n (closed apart classes k next)) rs (growing n (closed apart classes k next) (closing_all (length next) next (join_all rs 0 1 h))) h

  large : (b : Bool) (r s : List ℕ) → P r → P s → P (cond b r s)
  large true r s h g = h
  large false r s h g = g

  first_all : P [] → (rs : List (List ℕ)) → ((r : List ℕ) → Has rs r → P r) → P (first_large k rs)
  first_all none [] h = none
  first_all none (r ∷ rs) h = large (is_large k r) r (first_large k rs) (h r (inl refl)) (first_all none rs (λ s q. h s (inr q)))

  pub first_grown : P [] → All P (map (λ (c : ℕ). c ∷ []) classes) → P (first_large k (grown_regions apart classes k))
  first_grown none alone =
      let start = closing_all (length (map (λ (c : ℕ). c ∷ []) classes)) (map (λ (c : ℕ). c ∷ []) classes) alone in
      let rs = regions_at apart classes k in
      let all = growing (length rs) rs start in
      first_all none (grown_regions apart classes k) (λ r q. all_has P (grown_regions apart classes k) r all q)

module _ (apart : ℕ → ℕ → Bool) (classes : List ℕ) (k : ℕ) where
  abbrev IsAmong : List ℕ → Type 0
  IsAmong r = (x : ℕ) → Has r x → Has classes x

  both_among : (r s : List ℕ) → IsAmong (joined classes r s)
  both_among r s x h = (in_filter (λ c. is_in r c || is_in s c) x classes h).0

  of_one : (c x : ℕ) → Has (c ∷ []) x → c ≡ x
  of_one c x (inl e) = e
  of_one c x (inr h) = absurd h

  alone : All IsAmong (map (λ c. c ∷ []) classes)
  alone = all_from IsAmong (map (λ c. c ∷ []) classes) (λ r q. let m = mapped_has (λ (c : ℕ). c ∷ []) classes r q in subst IsAmong m.is (λ x h. subst (Has classes) (of_one m.lit x h) m.has))

  pub among : IsAmong (first_large k (grown_regions apart classes k))
  among = first_grown IsAmong apart classes k both_among (λ x q. absurd q) alone

-- what is chosen of a list is in it
pub chosen : (xs ys : List ℕ) → is_sublist xs ys ≡ true → (x : ℕ) → Has xs x → Has ys x
chosen xs ys e x h =
    let same : filter (λ (y : ℕ). list_any (λ z. z == y) xs) ys ≡ xs = (bytes_eq-Decides (filter (λ (y : ℕ). list_any (λ z. z == y) xs) ys) xs).0 e in
    (in_filter (λ (y : ℕ). list_any (λ z. z == y) xs) x ys (subst (λ (zs : List ℕ). Has zs x) (sym same) h)).0

test_sorts : (held : Held) (t : Tests) (u k : ℕ) (pick : Pick) → IsTest t (classes_of held t (sort u)) k pick → IsPickOfSort held u pick
test_sorts held t u k pick h =
    let classes = classes_of held t (sort u) in
    record {
      some = let n = h.count in omega (arith, n);
      sorts = in_all (is_term_of_sort held u) pick.terms (λ x q.
          let here = among t.apart classes k x (chosen pick.terms (first_large k (grown_regions t.apart classes k)) h.among x q) in
          (and_parts (is_term_of_sort held u x) (is_oldest t x) (in_filter (λ n. is_term_of_sort held u n && is_oldest t n) x (range_with_len 0 (length held.terms)) here).1).0);
    }

pick_at : (held : Held) (t : Tests) (u : ℕ) (o : Option ℕ) (p : Option Pick) (pick : Pick) → p ≡ Some pick → IsPickAt t (classes_of held t (sort u)) o p → IsPickOfSort held u pick
pick_at held t u None p pick e h = absurd (cc (sym h ∙ e))
pick_at held t u (Some k) None pick e h = absurd (cc e)
pick_at held t u (Some k) (Some q) pick e h = let same : q ≡ pick = cc e in subst (IsPickOfSort held u) same (test_sorts held t u k q h.1)

picks_from : (s : State) (t : Tests) (v : ℕ) (ps : List (Option Pick)) → ArePicks s t v ps → (i : ℕ) (pick : Pick) → slice_get ps i ≡ Some (Some pick) → IsPickOfSort s.held (v + i) pick
picks_from s t v [] h i pick e = absurd (cc e)
picks_from s t v (p ∷ ps) h zero pick e = let z : v + 0 ≡ v = omega arith in subst (λ n. IsPickOfSort s.held n pick) (sym z) (pick_at s.held t v (least_true s v) p pick (cc e) h.0)
picks_from s t v (p ∷ ps) h (suc i) pick e = let z : v + 1 + i ≡ v + suc i = omega arith in subst (λ n. IsPickOfSort s.held n pick) z (picks_from s t (v + 1) ps h.1 i pick e)

pub picks_sorts : (s : State) (t : Tests) (ps : List (Option Pick)) → ArePicks s t 0 ps → (u : ℕ) (pick : Pick) → slice_get ps u ≡ Some (Some pick) → IsPickOfSort s.held u pick
picks_sorts s t ps h u pick e = let z : 0 + u ≡ u = omega arith in subst (λ n. IsPickOfSort s.held n pick) z (picks_from s t 0 ps h u pick e)
