use Rattle.std.proofs.Common.{◌≡◌, ℕ, ◌+◌, ◌||◌, ◌++◌, ◌∷◌, [], List, map, take, inl, inr, sym, subst, ap, ◌∙◌, arith, get_or, length}
use Rattle.std.specs.List.{All}
use Rattle.std.proofs.lemmas.Bool.{or_cases, or_left, or_right}
use Rattle.std.proofs.lemmas.List.{length-map, map-append, take_more}
use Rattle.std.proofs.lemmas.List.Elements.{All-append}
use Rattle.fm_base.specs.declared.ids.TermId.{TermId}
use Rattle.fm_bank.specs.Closure.{AreApart}
use Rattle.fm_bank.specs.Terms.{numbers}
use Rattle.fm_cong.specs.Facts.{numbers_of_pair, pairs_of}
use Rattle.fm_region.specs.Rows.{IsPairBelow, between, both_places, number_at}
use Rattle.fm_region.proofs.Pairing.{apart_less, apart_more, below_place, between_more, both_below, both_from, both_to, oldest_separate}
use Rattle.fm_region.proofs.rows.place_pairs.Goals as goal

pub loop-pair-preserved : goal.loop-pair-preserved
loop-pair-preserved c =
    let g = c.args.graph.now in
    let facts = pairs_of g.facts in
    let terms = c.args.terms.now in
    let ns = numbers terms in
    let pairs = c.unequal_pairs-pairs.result.now in
    let i = c.loop-pair.pair-index in
    let d : TermId × TermId = (record { 0 = 0 }, record { 0 = 0 }) in
    let p : ℕ × ℕ = numbers_of_pair (get_or pairs i d) in
    let before = map numbers_of_pair (take i pairs) in
    let more : map numbers_of_pair (take (i + 1) pairs) ≡ before ++ p ∷ [] =
    ap (map numbers_of_pair) (take_more pairs i d (omega (arith, c.loop-pair-test.true))) ∙ map-append numbers_of_pair (take i pairs) (get_or pairs i d ∷ []) in
    let long = length-map terms (λ (t : TermId). t.0) in
    let separate = oldest_separate g c.args.sort terms c.requires.oldest in
    let a = c.place_of-a.result in
    let b = c.place_of-b.result in
    let old = c.loop-pair.placed.items in
    let new = c.put_pair.new.pairs.items in
    let grown : new ≡ old ++ both_places a b = c.in_ok-put_pair.ensures in
    let marks : (x y : ℕ) → between new x y ≡ (between old x y || between (both_places a b) x y) = λ x y. ap (λ ps. between ps x y) grown ∙ between_more old (both_places a b) x y in
    record {
      below = subst (All (IsPairBelow (length terms))) (sym grown) (All-append (IsPairBelow (length terms)) old (both_places a b) c.loop-pair.invariant.below (both_below (length terms) a b (below_place g terms p.0 a c.place_of-a.ensures) (below_place g terms p.1 b c.place_of-b.ensures)));
      says = λ x y lx ly.
          let inv = c.loop-pair.invariant.says x y lx ly in (
            λ h. subst (λ (ps : List (ℕ × ℕ)). AreApart g.shapes facts ps (number_at ns x) (number_at ns y)) (sym more)
                (apart_less g.shapes facts p (number_at ns x) (number_at ns y) before
                (elim (or_cases (between old x y) (between (both_places a b) x y) (sym (marks x y) ∙ h)) [
                  | inl was ↦ inl (inv.0 was)
                  | inr is ↦ inr (both_to g ns separate p a b c.place_of-a.ensures c.place_of-b.ensures x y is)
                ])),
            λ h. elim (apart_more g.shapes facts p (number_at ns x) (number_at ns y) before (subst (λ (ps : List (ℕ × ℕ)). AreApart g.shapes facts ps (number_at ns x) (number_at ns y)) more h)) [
              | inl was ↦ marks x y ∙ or_left (between old x y) (between (both_places a b) x y) (inv.1 was)
              | inr is ↦ marks x y ∙ or_right (between old x y) (between (both_places a b) x y) (both_from g ns separate p a b c.place_of-a.ensures c.place_of-b.ensures x y (omega (arith, lx, long)) (omega (arith, ly, long)) is)
            ],
          );
    }
