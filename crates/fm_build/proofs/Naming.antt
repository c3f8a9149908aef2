-- The representatives of a tuple of elements: reached terms of the variables' sorts, which have the tuple's elements.
use Rattle.std.proofs.Common.{◌≡◌, ℕ, zero, suc, ◌<◌, ◌≤◌, true, List, [], ◌∷◌, length, map, get_or, Some, inl, inr, refl, sym, subst, ap, ◌∙◌, arith}
use Rattle.std.specs.Prelude.{slice_get, slice_index}
use Rattle.std.specs.List.{range_with_len}
use Rattle.std.proofs.lemmas.Bool.{and_from, cases_lt}
use Rattle.std.proofs.lemmas.List.FromFn.{get_or-map-range_with_len, length-map-range_with_len}
use Rattle.std.proofs.lemmas.Option.{slice_get-get_or}
use Rattle.fm_base.specs.Interpretations.{Reading, names_its_sorts, reading_of}
use Rattle.fm_base.specs.Models.{IsElements}
use Rattle.fm_base.specs.Resolution.{Has}
use Rattle.fm_base.specs.declared.ids.SortId.{SortId}
use Rattle.fm_base.specs.declared.signature.Ty.{Ty}
use Rattle.fm_bank.specs.Instances.{is_substitution}
use Rattle.fm_bank.specs.Terms.{is_type, type_of}
use Rattle.fm_rounds.specs.Failing.{named_of, rep_in}
use Rattle.fm_rounds.specs.Grounds.{IsGrounded}
use Rattle.fm_rounds.specs.Rounds.{Content, candidate, candidate_reading, element_of, reached, representatives, reps_of}
use Rattle.fm_build.specs.Named.{AreNamed, TuplesAreNamed}
use Rattle.fm_rounds.proofs.Candidates.{candidate_interprets, rep_element}
use Rattle.fm_rounds.proofs.Fits.{size_reads}
use Rattle.fm_rounds.proofs.Members.{in_filter}

beyond_end : (xs : List ℕ) (i : ℕ) → length xs ≤ i → slice_index xs i ≡ 0
beyond_end [] i le = refl
beyond_end (x ∷ xs) zero le = absurd (omega (arith, le))
beyond_end (x ∷ xs) (suc i) le = beyond_end xs i (omega (arith, le))

member_at : (ns : List ℕ) (i : ℕ) → i < length ns → Has ns (get_or ns i 0)
member_at [] i lt = absurd (omega (arith, lt))
member_at (n ∷ ns) zero lt = inl refl
member_at (n ∷ ns) (suc i) lt = inr (member_at ns i (omega (arith, lt)))

module _ (c : Content) (g : IsGrounded c) (named : names_its_sorts c.sig ≡ true) where
  abbrev w : Reading
  w = reading_of (candidate c)

  sort_there : (s x : ℕ) → x < w.size s → s < c.sig.sorts
  sort_there s x lt = elim (cases_lt s c.sig.sorts) [
    | inl low ↦ low
    | inr high ↦
        let none : w.size s ≡ 0 = beyond_end (map (candidate_reading c).size (range_with_len 0 c.sig.sorts)) s (omega (arith, high, length-map-range_with_len (candidate_reading c).size 0 c.sig.sorts)) in
        absurd (omega (arith, lt, none))
  ]

  element_there : (s x : ℕ) → x < w.size s → x < length (reps_of c s)
  element_there s x lt = subst (λ n. x < n) (size_reads c.sig (candidate_reading c) (candidate_interprets c g named) named s (sort_there s x lt)) lt

  rep_is : (s x : ℕ) → x < w.size s → rep_in (slice_get (representatives c) s) x ≡ get_or (reps_of c s) x 0
  rep_is s x lt =
      let low = sort_there s x lt in
      let within : s < length (representatives c) = omega (arith, low, length-map-range_with_len (reps_of c) 0 c.sig.sorts) in
      ap (λ o. rep_in o x) (slice_get-get_or (representatives c) s [] within ∙ ap Some (get_or-map-range_with_len (reps_of c) 0 c.sig.sorts s s [] low (omega arith)))

  one_named : (s : SortId) (x : ℕ) → x < w.size s.0 →
      (element_of c (rep_in (slice_get (representatives c) s.0) x) ≡ x) × (is_type (type_of c.sig c.terms (rep_in (slice_get (representatives c) s.0) x)) (Ty.Of s) ≡ true) × Has (reached c).reps (rep_in (slice_get (representatives c) s.0) x)
  one_named s x lt =
      let low = element_there s.0 x lt in
      let is = rep_is s.0 x lt in
      let member = in_filter (λ n. is_type (type_of c.sig c.terms n) (Ty.Of (record { 0 = s.0 }))) (get_or (reps_of c s.0) x 0) (reached c).reps (member_at (reps_of c s.0) x low) in (
        ap (element_of c) is ∙ rep_element c g s.0 x low,
        ap (λ n. is_type (type_of c.sig c.terms n) (Ty.Of s)) is ∙ member.1,
        subst (λ n. Has (reached c).reps n) (sym is) member.0,
      )

  chosen_either : (n : ℕ) (ns : List ℕ) → Has (reached c).reps n → ((k : ℕ) → Has ns k → Has (reached c).reps k) → (k : ℕ) → Has (n ∷ ns) k → Has (reached c).reps k
  chosen_either n ns h hs k (inl e) = subst (λ j. Has (reached c).reps j) e h
  chosen_either n ns h hs k (inr i) = hs k i

  pub are_named : (vars : List SortId) (xs : List ℕ) → IsElements w vars xs → AreNamed c vars xs (named_of (representatives c) vars xs)
  are_named [] [] h = record { elements = refl; typed = refl; chosen = λ n i. absurd i }
  are_named [] (x ∷ xs) h = absurd h
  are_named (s ∷ ss) [] h = absurd h
  are_named (s ∷ ss) (x ∷ xs) (lt, h) =
      let n = rep_in (slice_get (representatives c) s.0) x in
      let ns = named_of (representatives c) ss xs in
      let one = one_named s x lt in
      let rest = are_named ss xs h in
      let first : element_of c n ≡ x = one.0 in
      let others = rest.elements in
      record {
        elements = λ i. first i ∷ others i;
        typed = and_from (is_type (type_of c.sig c.terms n) (Ty.Of s)) (is_substitution c.sig c.terms ss ns) one.1 rest.typed;
        chosen = chosen_either n ns one.2 rest.chosen;
      }

pub tuples_are_named : TuplesAreNamed
tuples_are_named c vars xs g named h = are_named c g named vars xs h
