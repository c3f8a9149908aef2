use Rattle.std.proofs.Common.{◌≡◌, ◌<◌, length, Some, refl, arith, ap, subst, sym, ◌∙◌}
use Rattle.fm_trail.specs.Trail.{AreLevelled, level_of, levels_of, heads_back, up_to}
use Rattle.fm_trail.proofs.Levels.{back_at, openings-length, trail_back}
use Rattle.fm_trail.proofs.Going.{content_at, levels_back}
use Rattle.std.proofs.lemmas.Option.{slice_get_read}
use Rattle.fm_trail.proofs.trail.Trail.undo_to.Goals as goal

pub index-end-requires : goal.index-end-requires
index-end-requires c =
    let es = c.self.inside.entries.items in
    let q : es ≡ c.args.self.now.entries = ap (λ v. v.entries) c.self.view_is in
    omega (arith, ap length c.self.invariant.opened_at, openings-length 0 es, ap level_of q)

pub invariant_of-self : goal.invariant_of-self
invariant_of-self c =
    let es = c.self.inside.entries.items in
    let op = c.self.inside.opened.items in
    let q : es ≡ c.args.self.now.entries = ap (λ v. v.entries) c.self.view_is in
    let lt : c.args.level < length op = omega (arith, ap length c.self.invariant.opened_at, openings-length 0 es, ap level_of q) in
    let at = slice_get_read op (length op) c.args.level c.index-end.result.now refl lt c.index-end.ensures in
    trail_back es c.truncate.new.self.items op c.truncate-2.new.self.items c.self.inside.places.items c.self.inside.heads c.back_to.new.self c.args.level c.index-end.result.now c.self.invariant at c.truncate.ensures.items c.truncate-2.ensures.items c.back_to.ensures

pub returns-clause-entries : goal.returns-clause-entries
returns-clause-entries c =
    let es = c.self.inside.entries.items in
    let op = c.self.inside.opened.items in
    let q : es ≡ c.args.self.now.entries = ap (λ v. v.entries) c.self.view_is in
    let lt : c.args.level < length op = omega (arith, ap length c.self.invariant.opened_at, openings-length 0 es, ap level_of q) in
    let at = slice_get_read op (length op) c.args.level c.index-end.result.now refl lt c.index-end.ensures in
    let b = back_at es op c.self.inside.places.items c.self.inside.heads c.args.level c.index-end.result.now c.self.invariant at in
    c.truncate.ensures.items ∙ (b.0 ∙ ap (up_to c.args.level) q)

pub returns-clause-heads : goal.returns-clause-heads
returns-clause-heads c =
    let es = c.self.inside.entries.items in
    let op = c.self.inside.opened.items in
    let q : es ≡ c.args.self.now.entries = ap (λ v. v.entries) c.self.view_is in
    let h : c.self.inside.heads ≡ c.args.self.now.heads = ap (λ v. v.heads) c.self.view_is in
    let lt : c.args.level < length op = omega (arith, ap length c.self.invariant.opened_at, openings-length 0 es, ap level_of q) in
    let at = slice_get_read op (length op) c.args.level c.index-end.result.now refl lt c.index-end.ensures in
    let b = back_at es op c.self.inside.places.items c.self.inside.heads c.args.level c.index-end.result.now c.self.invariant at in
    c.back_to.ensures ∙ λ i. heads_back ((sym b.2 ∙ ap length (sym c.truncate.ensures.items)) i) (h i)

pub returns-clause-content : goal.returns-clause-content
returns-clause-content c =
    let es = c.self.inside.entries.items in
    let op = c.self.inside.opened.items in
    let q : es ≡ c.args.self.now.entries = ap (λ v. v.entries) c.self.view_is in
    let lt : c.args.level < length op = omega (arith, ap length c.self.invariant.opened_at, openings-length 0 es, ap level_of q) in
    let at = slice_get_read op (length op) c.args.level c.index-end.result.now refl lt c.index-end.ensures in
    let b = back_at es op c.self.inside.places.items c.self.inside.heads c.args.level c.index-end.result.now c.self.invariant at in
    let p : c.truncate.new.self.items ≡ up_to c.args.level c.args.self.now.entries = c.truncate.ensures.items ∙ (b.0 ∙ ap (up_to c.args.level) q) in
    content_at c.args.self.now.entries c.args.level c.requires ∙ ap Some (sym p)

pub returns-clause-levels : goal.returns-clause-levels
returns-clause-levels c =
    let es = c.self.inside.entries.items in
    let op = c.self.inside.opened.items in
    let q : es ≡ c.args.self.now.entries = ap (λ v. v.entries) c.self.view_is in
    let lt : c.args.level < length op = omega (arith, ap length c.self.invariant.opened_at, openings-length 0 es, ap level_of q) in
    let at = slice_get_read op (length op) c.args.level c.index-end.result.now refl lt c.index-end.ensures in
    let b = back_at es op c.self.inside.places.items c.self.inside.heads c.args.level c.index-end.result.now c.self.invariant at in
    let p : c.truncate.new.self.items ≡ up_to c.args.level c.args.self.now.entries = c.truncate.ensures.items ∙ (b.0 ∙ ap (up_to c.args.level) q) in
    ap levels_of p ∙ levels_back c.args.self.now.entries c.args.level (subst (AreLevelled 0) q c.self.invariant.levels) c.requires
