use Rattle.std.proofs.Common.{List, ap, map, sym, ◌∙◌, ℕ}
use Rattle.fm_base.specs.declared.signature.Rank.{Rank}
use Rattle.std.specs.Prelude.{slice_get}
use Rattle.fm_levels.specs.Levels.{joined}
use Rattle.fm_elab.specs.Held.{Held}
use Rattle.fm_elab.proofs.Holding.{each_none, each_step}
use Rattle.fm_elab.proofs.scopes.Scopes.ranks.Goals as goal
use Rattle.fm_elab.proofs.scopes.Scopes.ranks.Goals.{in-Some-at+in_ok-copy+in_ok-push, in_default-at}

pub loop-place-preserved : goal.loop-place-preserved
loop-place-preserved c =
    elim c.match-at.branch [
      | in-Some-at+in_ok-copy+in_ok-push w ↦ each_step (λ (e : List ℕ × Rank). e.1) (joined c.args.self.now.symbols) c.loop-place.place c.loop-place.ranks.items c.match-at.ranks.items (map (λ (e : List ℕ × Rank). e.1) (joined c.args.self.now.symbols)) (w.in-Some-at.field-0-0.now, w.in-Some-at.rank.now) w.in_ok-copy.field-0 (ap (λ (h : Held). slice_get (joined h.symbols) c.loop-place.place) (sym c.self.view_is) ∙ sym w.in-Some-at.ensures) w.in_ok-copy.ensures (ap (λ v. v.items) w.ranks-is ∙ w.in_ok-push.ensures.items) c.loop-place.invariant
      | in_default-at w ↦ each_none (λ (e : List ℕ × Rank). e.1) (joined c.args.self.now.symbols) c.loop-place.place c.loop-place.ranks.items c.match-at.ranks.items (map (λ (e : List ℕ × Rank). e.1) (joined c.args.self.now.symbols)) (ap (λ (h : Held). slice_get (joined h.symbols) c.loop-place.place) (sym c.self.view_is) ∙ sym w.in_default-at.ensures) (ap (λ v. v.items) w.ranks-is) c.loop-place.invariant
    ]
