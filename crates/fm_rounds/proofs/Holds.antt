-- What the candidate of a congruence is good for.
use Rattle.std.proofs.Common.{◌≡◌, ℕ, ◌<◌, true, List, [], ◌∷◌, map, length, inl, inr, refl, subst, sym, ◌∙◌}
use Rattle.std.proofs.lemmas.Bool.{and_parts, false≢true}
use Rattle.fm_base.specs.Interpretations.{Reading, names_its_sorts, reading_of}
use Rattle.fm_base.specs.Models.{IsElements}
use Rattle.fm_base.specs.Resolution.{Has}
use Rattle.fm_base.specs.declared.ids.SortId.{SortId}
use Rattle.fm_base.specs.declared.signature.Ty.{Ty}
use Rattle.fm_bank.specs.Instances.{is_substitution}
use Rattle.fm_bank.specs.Terms.{is_type, type_of}
use Rattle.fm_rounds.specs.Grounds.{IsGrounded, IsReachedTerm}
use Rattle.fm_rounds.specs.Rounds.{Content, candidate, candidate_reading, element_in, element_of, reps_of}
use Rattle.fm_rounds.specs.Soundness.{CandidateHolds, CandidatesHold}
use Rattle.fm_rounds.proofs.Alike.{literals_alike}
use Rattle.fm_rounds.proofs.Candidates.{agreed_value, candidate_interprets, instance_truth, rep_element, sort_within}
use Rattle.fm_rounds.proofs.Elements.{element_within, type_is}
use Rattle.fm_rounds.proofs.Fits.{size_reads, tabled_agrees, tabled_fits, tabled_reads}

module _ (c : Content) (g : IsGrounded c) (named : names_its_sorts c.sig ≡ true) where
  abbrev m : Reading
  m = candidate_reading c

  abbrev w : Reading
  w = reading_of (candidate c)

  sizes : (s : ℕ) → s < c.sig.sorts → w.size s ≡ length (reps_of c s)
  sizes = size_reads c.sig m (candidate_interprets c g named) named

  one_element : (s : SortId) (n : ℕ) → IsReachedTerm c n → is_type (type_of c.sig c.terms n) (Ty.Of s) ≡ true → (element_of c n < m.size s.0) × (element_of c n < w.size s.0)
  one_element s n h e =
      let is = type_is (type_of c.sig c.terms n) (Ty.Of s) e in
      let low : element_of c n < length (reps_of c s.0) = subst (λ o. element_in c o n < length (reps_of c s.0)) (sym is) (element_within c g s.0 n h is) in
      (low, subst (λ k. element_of c n < k) (sym (sizes s.0 (sort_within c g named n s is))) low)

  elements_are : (vars : List SortId) (ns : List ℕ) → is_substitution c.sig c.terms vars ns ≡ true → ((n : ℕ) → Has ns n → IsReachedTerm c n) → IsElements m vars (map (element_of c) ns) × IsElements w vars (map (element_of c) ns)
  elements_are [] [] e h = (tt, tt)
  elements_are [] (n ∷ ns) e h = absurd (false≢true e)
  elements_are (s ∷ ss) [] e h = absurd (false≢true e)
  elements_are (s ∷ ss) (n ∷ ns) e h =
      let p = and_parts (is_type (type_of c.sig c.terms n) (Ty.Of s)) (is_substitution c.sig c.terms ss ns) e in
      let one = one_element s n (h n (inl refl)) p.0 in
      let rest = elements_are ss ns p.1 (λ k i. h k (inr i)) in
      ((one.0, rest.0), (one.1, rest.1))

  pub candidate_holds : CandidateHolds c
  candidate_holds =
      let int = candidate_interprets c g named in
      let agree = tabled_agrees c.sig m in
      record {
        fits = tabled_fits c.sig m int named;
        sizes = sizes;
        places = rep_element c g;
        values = agreed_value c g named w agree;
        elements = λ vars lits ns ls i. (elements_are vars ns i.typed i.reached).1;
        instances = λ vars lits ns ls i.
            literals_alike c.sig m w int (tabled_reads c.sig m) vars (map (element_of c) ns) (elements_are vars ns i.typed i.reached).0 lits i.sorted
            ∙ instance_truth c g named ns lits ls i.reached i.grounded i.atoms;
      }

pub candidates_hold : CandidatesHold
candidates_hold c g named = candidate_holds c g named
