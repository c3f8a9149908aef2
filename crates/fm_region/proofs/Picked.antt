-- What the grown regions answer is the test of the sort.
use Rattle.std.proofs.Common.{◌≡◌, ℕ, ◌+◌, ◌<◌, List, length, take, Option, Some, None, refl, sym, subst, ap, ◌∙◌, arith}
use Rattle.std.specs.Global.{Vec}
use Rattle.std.proofs.lemmas.List.{length-map, length-take-le}
use Rattle.fm_base.specs.declared.ids.SortId.{SortId}
use Rattle.fm_base.specs.declared.ids.TermId.{TermId}
use Rattle.fm_bank.specs.Regions.{first_large, grown_regions, regions_at}
use Rattle.fm_bank.specs.Terms.{numbers}
use Rattle.fm_cong.specs.Held.{Held as Graph}
use Rattle.fm_cong.specs.Types.{AreOldest}
use Rattle.fm_region.specs.Answers.{IsSplit, IsStrongOf, test_of}
use Rattle.fm_region.specs.Held.{AreGrownOf}
use Rattle.fm_region.specs.Picks.{IsPickOf}
use Rattle.fm_region.specs.Sources.{AreGrownFrom, IsSourceOf, Parts, parts}
use Rattle.fm_region.specs.declared.source.Source.{Source}
use Rattle.fm_region.specs.declared.strong.Strong.{Strong}
use Rattle.fm_region.proofs.Ascending.{ascending_up, up_distinct}
use Rattle.fm_region.proofs.Choosing.{large_is}
use Rattle.fm_region.proofs.Covering.{grown_large}
use Rattle.fm_region.proofs.Ends.{regions_cover}
use Rattle.fm_region.proofs.Making.{are_grown, is_strong, parts_at}

many : (ids : List TermId) (ns : List ℕ) (n : ℕ) → numbers ids ≡ ns → length ns ≡ n → length ids ≡ n
many ids ns n e long = sym (length-map ids (λ (t : TermId). t.0)) ∙ ap length e ∙ long

module _ (g : Graph) (sort : SortId) (k : ℕ) (s : Source) (of : IsSourceOf g sort k s) (regions : List (List ℕ)) (found : Strong) (from : AreGrownFrom (parts s) regions found) where
  grown : AreGrownFrom (k, (s.terms.items, s.pairs.items)) regions found
  grown = subst (λ (p : Parts). AreGrownFrom p regions found) (parts_at g sort k s of) from

  strong_at : (answer : Strong) → found ≡ answer → IsStrongOf g sort k answer
  strong_at answer e = subst (IsStrongOf g sort k) e (is_strong g sort k s of regions found grown)

  pub fits_picked : found ≡ Strong.Fits → IsPickOf g sort k None
  fits_picked e t cs tests oldest = strong_at Strong.Fits e t cs tests oldest

  pub clique_picked : (terms : Vec TermId) → found ≡ Strong.Clique terms → IsPickOf g sort k (Some (record { terms = terms; pair = None }))
  clique_picked terms e t cs tests oldest =
      let h = strong_at (Strong.Clique terms) e t cs tests oldest in
      record {
        more = h.0;
        terms = h.1.whole;
        count = many terms.items (numbers terms.items) (k + 1) refl h.1.size;
        pair = h.1.apart_all;
      }

  pub split_picked : (a b : TermId) → found ≡ Strong.Split a b → (terms : Vec TermId) → numbers terms.items ≡ test_of k regions → IsPickOf g sort k (Some (record { terms = terms; pair = Some (a, b) }))
  split_picked a b e terms is t cs tests oldest =
      let h = strong_at (Strong.Split a b) e t cs tests oldest in
      let classes = numbers cs in
      let regrown = are_grown g sort k s of regions found grown t cs tests oldest in
      let test : numbers terms.items ≡ test_of k (grown_regions t.apart classes k) = is ∙ ap (test_of k) regrown in
      let large = large_is k (grown_regions t.apart classes k) (grown_large t.apart classes k (up_distinct classes (ascending_up cs oldest.ascending)) h.0 (length (regions_at t.apart classes k)) (regions_at t.apart classes k) (omega arith) (regions_cover t.apart classes k)) in
      record {
        more = h.0;
        terms = test;
        count = many terms.items (test_of k (grown_regions t.apart classes k)) (k + 1) test (length-take-le (k + 1) (first_large k (grown_regions t.apart classes k)) (omega (arith, large)));
        pair = subst (λ (ns : List ℕ). IsSplit t.apart ns a.0 b.0) (sym test) h.1;
      }
