-- Rounds: what is reached is closed under subterms, and each reached term has a representative.
use Rattle.std.proofs.Common.{◌≡◌, ℕ, zero, suc, ◌<◌, ◌≤◌, Bool, true, false, ◌&&◌, not, cond, List, [], ◌∷◌, ◌++◌, length, Some, refl, sym, ap, ◌∙◌, arith, inl, inr}
use Rattle.std.specs.Prelude.{slice_get}
use Rattle.std.specs.List.{filter, flat_map, list_all, range_with_len}
use Rattle.std.proofs.lemmas.Bool.{and_parts, and_from}
use Rattle.std.proofs.lemmas.Option.{slice_get_within}
use Rattle.fm_bank.specs.Closure.{object}
use Rattle.fm_bank.specs.Terms.{Term}
use Rattle.fm_base.specs.Resolution.{Has}
use Rattle.fm_bank.specs.Subterms.{is_found as has}
use Rattle.fm_rounds.specs.Rounds.{Content, Round, grown, is_new, joins, reached, reached_by, round}
use Rattle.fm_rounds.specs.Grounds.{AreTermsOf, IsGrounded}
use Rattle.fm_rounds.proofs.Members.{any_in, filter_in, flat_in, has_in, in_any, in_either, in_filter, in_flat, in_has, in_left, in_range, in_right, range_in}

pub record IsRound (c : Content) (r : Round) : Type 0 where
  pub terms : AreTermsOf c.terms r.terms
  pub closed : (n k : ℕ) (t : Term) → Has r.terms n → slice_get c.terms n ≡ Some t → Has t.args k → Has r.terms k
  pub among : (n : ℕ) → Has r.reps n → Has r.terms n
  pub covered : (n : ℕ) → Has r.terms n → joins c r.reps n ≡ true

pub all_in : {X : Type 0} (p : X → Bool) (xs : List X) (x : X) → list_all p xs ≡ true → Has xs x → p x ≡ true
all_in p [] x e h = absurd h
all_in p (y ∷ xs) x e (inl s) = ap p (sym s) ∙ (and_parts (p y) (list_all p xs) e).0
all_in p (y ∷ xs) x e (inr h) = all_in p xs x (and_parts (p y) (list_all p xs) e).1 h

module _ (c : Content) (g : IsGrounded c) where
  joined : (ns : List ℕ) (m n : ℕ) → joins c ns m ≡ true → c.same (object m) (object n) ≡ true → joins c ns n ≡ true
  joined ns m n e s =
      let p = any_in (λ k. c.same (object k) (object m)) ns e in
      in_any (λ k. c.same (object k) (object n)) ns p.0 p.1 (g.transitive (object p.0) (object m) (object n) p.2 s)

  joins_more : (ns ms : List ℕ) (n : ℕ) → joins c ns n ≡ true → joins c (ns ++ ms) n ≡ true
  joins_more ns ms n e =
      let p = any_in (λ k. c.same (object k) (object n)) ns e in
      in_any (λ k. c.same (object k) (object n)) (ns ++ ms) p.0 (in_left p.0 ns ms p.1) p.2

  module _ (reps over : List ℕ) (within : AreTermsOf c.terms over) where
    abbrev after : Round
    after = grown c reps over

    term_place : (n : ℕ) → Has over n → n < length c.terms
    term_place n h = let t = within n h in slice_get_within c.terms n t.0 t.1

    here_or_before : (b : ℕ) (n : ℕ) → ((m : ℕ) → m < b → Has over m → joins c after.reps m ≡ true) → n ≤ b → Has over n → (p q : Bool) → joins c reps n ≡ p → joins c (filter (has over) (range_with_len 0 n)) n ≡ q → joins c after.reps n ≡ true
    here_or_before b n ih le h true q e f = joins_more reps (filter (is_new c reps over) (range_with_len 0 (length c.terms))) n e
    here_or_before b n ih le h false true e f =
        let p = any_in (λ k. c.same (object k) (object n)) (filter (has over) (range_with_len 0 n)) f in
        let kept = in_filter (has over) p.0 (range_with_len 0 n) p.1 in
        let low = in_range p.0 0 n kept.0 in
        joined after.reps p.0 n (ih p.0 (omega (arith, low.1, le)) (has_in over p.0 kept.1)) p.2
    here_or_before b n ih le h false false e f =
        let new : is_new c reps over n ≡ true = and_from (has over n) (not (joins c reps n) && not (joins c (filter (has over) (range_with_len 0 n)) n)) (in_has over n h) (and_from (not (joins c reps n)) (not (joins c (filter (has over) (range_with_len 0 n)) n)) (ap not e) (ap not f)) in
        let there = filter_in (is_new c reps over) n (range_with_len 0 (length c.terms)) (range_in n 0 (length c.terms) (omega arith) (omega (arith, term_place n h))) new in
        in_any (λ k. c.same (object k) (object n)) after.reps n (in_right n reps (filter (is_new c reps over) (range_with_len 0 (length c.terms))) there) (g.reflexive (object n))

    covered_below : (b n : ℕ) → n < b → Has over n → joins c after.reps n ≡ true
    covered_below zero n lt h = absurd (omega (arith, lt))
    covered_below (suc b) n lt h = here_or_before b n (λ m less i. covered_below b m less i) (omega (arith, lt)) h (joins c reps n) (joins c (filter (has over) (range_with_len 0 n)) n) refl refl

    reps_among : ((n : ℕ) → Has reps n → Has over n) → (n : ℕ) → Has after.reps n → Has over n
    reps_among among n h = elim (in_either n reps (filter (is_new c reps over) (range_with_len 0 (length c.terms))) h) [
      | inl old ↦ among n old
      | inr new ↦
          let e = (in_filter (is_new c reps over) n (range_with_len 0 (length c.terms)) new).1 in
          has_in over n (and_parts (has over n) (not (joins c reps n) && not (joins c (filter (has over) (range_with_len 0 n)) n)) e).0
    ]

    pub grown_is : ((n k : ℕ) (t : Term) → Has over n → slice_get c.terms n ≡ Some t → Has t.args k → Has over k) → ((n : ℕ) → Has reps n → Has over n) → IsRound c after
    grown_is closed among = record {
      terms = within;
      closed = closed;
      among = reps_among among;
      covered = λ n h. covered_below (suc n) n (omega arith) h;
    }

  start_closed : (n k : ℕ) (t : Term) → Has c.start n → slice_get c.terms n ≡ Some t → Has t.args k → Has c.start k
  start_closed n k t h e a = elim (g.start_closed n k t h e a) [ inl none ↦ absurd none | inr r ↦ elim r [ inl i ↦ i | inr none ↦ absurd none ] ]

  by_reps : (reps : List ℕ) (i : List ℕ × List ℕ) (n : ℕ) (b : Bool) → list_all (has reps) i.0 ≡ b → Has (cond b i.1 []) n → (list_all (has reps) i.0 ≡ true) × Has i.1 n
  by_reps reps i n true e h = (e, h)
  by_reps reps i n false e h = absurd h

  cond_in : (i : List ℕ × List ℕ) (n : ℕ) (b : Bool) → b ≡ true → Has i.1 n → Has (cond b i.1 []) n
  cond_in i n true e h = h
  cond_in i n false e h = cc

  module _ (r : Round) (h : IsRound c r) where
    abbrev over : List ℕ
    over = r.terms ++ flat_map (reached_by r.reps) c.added

    over_terms : AreTermsOf c.terms over
    over_terms n i = elim (in_either n r.terms (flat_map (reached_by r.reps) c.added) i) [
      | inl old ↦ h.terms n old
      | inr new ↦
          let p = in_flat (reached_by r.reps) n c.added new in
          g.added_terms p.0 p.1 n (by_reps r.reps p.0 n (list_all (has r.reps) p.0.0) refl p.2).1
    ]

    over_closed : (n k : ℕ) (t : Term) → Has over n → slice_get c.terms n ≡ Some t → Has t.args k → Has over k
    over_closed n k t i e a = elim (in_either n r.terms (flat_map (reached_by r.reps) c.added) i) [
      | inl old ↦ in_left k r.terms (flat_map (reached_by r.reps) c.added) (h.closed n k t old e a)
      | inr new ↦
          let p = in_flat (reached_by r.reps) n c.added new in
          let b = by_reps r.reps p.0 n (list_all (has r.reps) p.0.0) refl p.2 in
          elim (g.added_closed p.0 p.1 n k t b.1 e a) [
            | inl itself ↦ in_left k r.terms (flat_map (reached_by r.reps) c.added) (h.closed n k t (h.among n (has_in r.reps n (all_in (has r.reps) p.0.0 n b.0 itself))) e a)
            | inr other ↦ elim other [
              | inl inside ↦ in_right k r.terms (flat_map (reached_by r.reps) c.added) (flat_in (reached_by r.reps) k c.added p.0 p.1 (cond_in p.0 k (list_all (has r.reps) p.0.0) b.0 inside))
              | inr rep ↦ in_left k r.terms (flat_map (reached_by r.reps) c.added) (h.among k (has_in r.reps k (all_in (has r.reps) p.0.0 k b.0 rep)))
            ]
          ]
    ]

  pub round_is : (i : ℕ) → IsRound c (round c i)
  unfolding round
  round_is zero = grown_is [] c.start g.start_terms start_closed (λ n none. absurd none)
  round_is (suc i) =
      let r = round c i in
      let h = round_is i in
      grown_is r.reps (over r h) (over_terms r h) (over_closed r h) (λ n old. in_left n r.terms (flat_map (reached_by r.reps) c.added) (h.among n old))

  pub reached_is : IsRound c (reached c)
  reached_is = round_is (length c.added)
