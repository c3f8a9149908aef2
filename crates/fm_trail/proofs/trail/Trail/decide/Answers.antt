use Rattle.std.proofs.Common.{◌≡◌, ℕ, List, ◌+◌, ◌++◌, ◌∷◌, [], length, None, refl, arith, ap, subst, sym, ◌∙◌}
use Rattle.std.specs.Prelude.{slice_set}
use Rattle.fm_trail.specs.Trail.{AreLevelled, decision, level_of, levels_of, value_of}
use Rattle.fm_trail.specs.declared.entry.Entry.{Entry}
use Rattle.fm_trail.specs.declared.entry.Why.{Why}
use Rattle.fm_trail.proofs.Levels.{openings-length, trail_longer, trail_push}
use Rattle.fm_trail.proofs.Going.{levels_decided}
use Rattle.fm_trail.proofs.trail.Trail.decide.Goals as goal

pub invariant_of-self : goal.invariant_of-self
invariant_of-self c = trail_longer c.self.inside.entries.items c.self.inside.entries.items c.self.inside.opened.items c.self.inside.opened.items c.self.inside.places.items c.make_room.new.places.items c.self.inside.heads c.self.invariant refl refl c.make_room.ensures.kept

pub invariant_of-self-in_err-reserve : goal.invariant_of-self-in_err-reserve
invariant_of-self-in_err-reserve c = trail_longer c.self.inside.entries.items c.self.inside.entries.items c.self.inside.opened.items c.reserve.new.self.items c.self.inside.places.items c.make_room.new.places.items c.self.inside.heads c.self.invariant refl c.reserve.ensures.items c.make_room.ensures.kept

pub invariant_of-self-in_err-push : goal.invariant_of-self-in_err-push
invariant_of-self-in_err-push c = trail_longer c.self.inside.entries.items c.push.new.self.items c.self.inside.opened.items c.reserve.new.self.items c.self.inside.places.items c.make_room.new.places.items c.self.inside.heads c.self.invariant c.in_err-push.ensures.items c.reserve.ensures.items c.make_room.ensures.kept

pub invariant_of-self-2 : goal.invariant_of-self-2
invariant_of-self-2 c =
    let es = c.self.inside.entries.items in
    let op = c.self.inside.opened.items in
    let q : es ≡ c.args.self.now.entries = ap (λ v. v.entries) c.self.view_is in
    let t = trail_longer es es op op c.self.inside.places.items c.make_room.new.places.items c.self.inside.heads c.self.invariant refl refl c.make_room.ensures.kept in
    let place : c.len-place.result ≡ length es = omega arith in
    let e : Entry = record { lit = c.args.lit; level = c.len.result + 1; why = Why.Decision } in
    trail_push es c.push.new.self.items op c.push_reserved.new.self.items c.make_room.new.places.items (slice_set c.make_room.new.places.items c.args.lit.atom.0 c.len-place.result) c.self.inside.heads e t (subst (λ (xs : List Entry). value_of xs c.args.lit.atom ≡ None) (sym q) c.requires) (omega (arith, ap length c.self.invariant.opened_at, openings-length 0 es, ap length c.reserve.ensures.items)) c.in_ok-make_room.ensures.room c.in_ok-push.ensures.items (c.push_reserved.ensures.items ∙ λ i. c.reserve.ensures.items i ++ place i ∷ []) (ap (slice_set c.make_room.new.places.items c.args.lit.atom.0) place)

pub returns-clause-added : goal.returns-clause-added
returns-clause-added c =
    let es = c.self.inside.entries.items in
    let q : es ≡ c.args.self.now.entries = ap (λ v. v.entries) c.self.view_is in
    let h : c.self.inside.heads ≡ c.args.self.now.heads = ap (λ v. v.heads) c.self.view_is in
    let n : c.len.result + 1 ≡ level_of c.args.self.now.entries + 1 = omega (arith, ap length c.self.invariant.opened_at, openings-length 0 es, ap level_of q, ap length c.reserve.ensures.items) in
    let one : ℕ → Entry = λ k. record { lit = c.args.lit; level = k; why = Why.Decision } in
    let p : c.push.new.self.items ≡ c.args.self.now.entries ++ decision c.args.self.now.entries c.args.lit ∷ [] = c.in_ok-push.ensures.items ∙ (ap (λ (xs : List Entry). xs ++ one (c.len.result + 1) ∷ []) q ∙ ap (λ (k : ℕ). c.args.self.now.entries ++ one k ∷ []) n) in
    λ i. record { entries = p i; heads = h i }

pub returns-clause-opened : goal.returns-clause-opened
returns-clause-opened c =
    let es = c.self.inside.entries.items in
    let q : es ≡ c.args.self.now.entries = ap (λ v. v.entries) c.self.view_is in
    let h : c.self.inside.heads ≡ c.args.self.now.heads = ap (λ v. v.heads) c.self.view_is in
    let n : c.len.result + 1 ≡ level_of c.args.self.now.entries + 1 = omega (arith, ap length c.self.invariant.opened_at, openings-length 0 es, ap level_of q, ap length c.reserve.ensures.items) in
    let one : ℕ → Entry = λ k. record { lit = c.args.lit; level = k; why = Why.Decision } in
    let p : c.push.new.self.items ≡ c.args.self.now.entries ++ decision c.args.self.now.entries c.args.lit ∷ [] = c.in_ok-push.ensures.items ∙ (ap (λ (xs : List Entry). xs ++ one (c.len.result + 1) ∷ []) q ∙ ap (λ (k : ℕ). c.args.self.now.entries ++ one k ∷ []) n) in
    ap levels_of p ∙ levels_decided c.args.self.now.entries c.args.lit (subst (AreLevelled 0) q c.self.invariant.levels)
