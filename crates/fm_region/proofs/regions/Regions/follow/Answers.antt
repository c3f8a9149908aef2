use Rattle.std.proofs.Common.{◌≡◌, ℕ, ◌≤◌, ◌<◌, List, Some, length, take, get_or, sym, ap, subst, ◌∙◌}
use Rattle.fm_region.specs.Held.{AreRegionsOf, Held}
use Rattle.fm_region.specs.Levels.{AreOpened, last_of, levels_of, newest}
use Rattle.fm_region.specs.Sources.{AreMadeFrom, parts}
use Rattle.fm_region.specs.declared.source.Source.{Source}
use Rattle.fm_region.proofs.Making.{made_regions, made_same, some_source}
use Rattle.fm_region.proofs.Opening.{last_end, levels_put, newest_greatest, newest_within, opened_put}
use Rattle.fm_region.proofs.regions.Regions.follow.Goals as goal

pub returns-then-is_last-clause-regions : goal.returns-then-is_last-clause-regions
returns-then-is_last-clause-regions c =
    let g = c.args.graph.now in
    let r = c.self.inside in
    let s = c.in_ok-source.source in
    let made = made_same r.source s (last_of r.made.items) c.self.invariant.last (c.is_last.ensures.0 c.if-is_last.true) in
    subst (λ (h : Held). AreRegionsOf g h.sort c.args.k h.regions) c.self.view_is (made_regions g r.sort c.args.k s (last_of r.made.items) c.in_ok-source.ensures made)

pub invariant_of-self-2 : goal.invariant_of-self-2
invariant_of-self-2 c =
    let made = c.self.inside.made.items in
    let opened = c.self.inside.opened.items in
    let keep : c.newest_level-keep.result ≡ newest opened = c.newest_level-keep.ensures ∙ ap newest c.as_slice.ensures.value in
    let within = subst (λ (n : ℕ). n ≤ length made) (sym keep) (newest_within (length made) opened c.self.invariant.levels) in
    let greatest : (i : ℕ) → i < length opened → get_or opened i 0 ≤ c.newest_level-keep.result = λ i lt. subst (λ (n : ℕ). get_or opened i 0 ≤ n) (sym keep) (newest_greatest (length made) opened c.self.invariant.levels i lt) in
    let told : last_of c.put.new.made.items ≡ c.in_ok-regions.regions = ap last_of c.in_ok-put.ensures.put ∙ last_end (take c.newest_level-keep.result c.self.inside.made.items) c.in_ok-regions.regions in
    let here = subst (AreMadeFrom (parts c.in_ok-source.source)) (sym told) c.in_ok-regions.ensures in
    record {
      levels = subst (λ (m : List (List (List ℕ))). AreOpened (length m) opened) (sym c.in_ok-put.ensures.put) (opened_put made c.newest_level-keep.result c.in_ok-regions.regions opened within greatest c.self.invariant.levels);
      last = λ s e. subst (λ (t : Source). AreMadeFrom (parts t) (last_of c.put.new.made.items)) (some_source c.in_ok-source.source s e) here;
    }

pub returns-clause-levels : goal.returns-clause-levels
returns-clause-levels c =
    let made = c.self.inside.made.items in
    let opened = c.self.inside.opened.items in
    let keep : c.newest_level-keep.result ≡ newest opened = c.newest_level-keep.ensures ∙ ap newest c.as_slice.ensures.value in
    let within = subst (λ (n : ℕ). n ≤ length made) (sym keep) (newest_within (length made) opened c.self.invariant.levels) in
    let greatest : (i : ℕ) → i < length opened → get_or opened i 0 ≤ c.newest_level-keep.result = λ i lt. subst (λ (n : ℕ). get_or opened i 0 ≤ n) (sym keep) (newest_greatest (length made) opened c.self.invariant.levels i lt) in
    ap (λ (m : List (List (List ℕ))). levels_of m opened) c.in_ok-put.ensures.put ∙ (levels_put made c.newest_level-keep.result c.in_ok-regions.regions opened within greatest ∙ ap (λ (h : Held). h.levels) c.self.view_is)

pub returns-clause-regions : goal.returns-clause-regions
returns-clause-regions c =
    let g = c.args.graph.now in
    let r = c.self.inside in
    let told : last_of c.put.new.made.items ≡ c.in_ok-regions.regions = ap last_of c.in_ok-put.ensures.put ∙ last_end (take c.newest_level-keep.result c.self.inside.made.items) c.in_ok-regions.regions in
    subst (λ (h : Held). AreRegionsOf g h.sort c.args.k (last_of c.put.new.made.items)) c.self.view_is (subst (AreRegionsOf g r.sort c.args.k) (sym told) (made_regions g r.sort c.args.k c.in_ok-source.source c.in_ok-regions.regions c.in_ok-source.ensures c.in_ok-regions.ensures))
