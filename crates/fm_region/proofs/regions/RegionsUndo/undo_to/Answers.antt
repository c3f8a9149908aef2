use Rattle.std.proofs.Common.{◌≡◌, ℕ, ◌<◌, List, length, take, get_or, Some, sym, subst, ap, ◌∙◌, arith}
use Rattle.std.specs.Prelude.{slice_get}
use Rattle.std.proofs.lemmas.List.{get_or_default, length-map, length-take-le}
use Rattle.fm_region.specs.Held.{Held}
use Rattle.fm_region.specs.Levels.{AreOpened, last_of, levels_of}
use Rattle.fm_region.specs.Sources.{AreMadeFrom, parts}
use Rattle.fm_region.proofs.Making.{last_kept}
use Rattle.fm_region.proofs.Opening.{level_at, levels_cut, opened_cut}
use Rattle.fm_region.proofs.regions.RegionsUndo.undo_to.Goals as goal

pub returns-clause-levels : goal.returns-clause-levels
returns-clause-levels c =
    let s = c.self.inside in
    let made = s.made.items in
    let opened = s.opened.items in
    let levels : levels_of made opened ≡ c.args.self.now.levels = ap (λ (h : Held). h.levels) c.self.view_is in
    let lt : c.args.level < length opened = omega (arith, length-map opened (λ (n : ℕ). last_of (take n made)), ap length levels, c.requires) in
    let at : c.index-at.result.now ≡ get_or opened c.args.level 0 = c.index-at.ensures ∙ get_or_default opened c.args.level c.index-at.result.now 0 lt in
    let made_is : c.truncate.new.self.items ≡ take (get_or opened c.args.level 0) made = c.truncate.ensures.items ∙ ap (λ (n : ℕ). take n made) at in
    ap (λ (m : List (List (List ℕ))). levels_of m c.truncate-2.new.self.items) made_is ∙ (ap (levels_of (take (get_or opened c.args.level 0) made)) c.truncate-2.ensures.items ∙ (levels_cut made opened (length made) c.args.level c.self.invariant.levels lt ∙ ap (take c.args.level) levels))

pub returns-clause-content : goal.returns-clause-content
returns-clause-content c =
    let s = c.self.inside in
    let made = s.made.items in
    let opened = s.opened.items in
    let levels : levels_of made opened ≡ c.args.self.now.levels = ap (λ (h : Held). h.levels) c.self.view_is in
    let lt : c.args.level < length opened = omega (arith, length-map opened (λ (n : ℕ). last_of (take n made)), ap length levels, c.requires) in
    let at : c.index-at.result.now ≡ get_or opened c.args.level 0 = c.index-at.ensures ∙ get_or_default opened c.args.level c.index-at.result.now 0 lt in
    let made_is : c.truncate.new.self.items ≡ take (get_or opened c.args.level 0) made = c.truncate.ensures.items ∙ ap (λ (n : ℕ). take n made) at in
    ap (λ (ls : List (List (List ℕ))). slice_get ls c.args.level) (sym levels) ∙ (level_at made opened (length made) c.args.level c.self.invariant.levels lt ∙ ap Some (ap last_of (sym made_is)))

pub invariant_of-self : goal.invariant_of-self
invariant_of-self c =
    let s = c.self.inside in
    let made = s.made.items in
    let opened = s.opened.items in
    let levels : levels_of made opened ≡ c.args.self.now.levels = ap (λ (h : Held). h.levels) c.self.view_is in
    let lt : c.args.level < length opened = omega (arith, length-map opened (λ (n : ℕ). last_of (take n made)), ap length levels, c.requires) in
    let at : c.index-at.result.now ≡ get_or opened c.args.level 0 = c.index-at.ensures ∙ get_or_default opened c.args.level c.index-at.result.now 0 lt in
    let n = c.index-at.result.now in
    let few : length c.truncate.new.self.items ≡ get_or opened c.args.level 0 = ap length c.truncate.ensures.items ∙ (ap (λ (m : ℕ). length (take m made)) at ∙ length-take-le (get_or opened c.args.level 0) made (c.self.invariant.levels.within c.args.level lt)) in
    record {
      levels = subst (λ (m : ℕ). AreOpened m c.truncate-2.new.self.items) (sym few) (subst (AreOpened (get_or opened c.args.level 0)) (sym c.truncate-2.ensures.items) (opened_cut made opened (length made) c.args.level c.self.invariant.levels lt));
      last = λ t e. subst (λ (ms : List (List (List ℕ))). AreMadeFrom (parts t) (last_of ms)) (sym c.truncate.ensures.items) (last_kept made n c.len.result s.source c.forget_if.new.source (omega (arith, c.len.ensures, s.made.ok.0)) c.forget_if.ensures c.self.invariant.last t e);
    }
