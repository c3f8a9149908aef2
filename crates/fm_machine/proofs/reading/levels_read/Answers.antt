use Rattle.std.proofs.Common.{◌≡◌, ◌-◌, ℕ, Some, ap, subst, ◌∙◌, arith}
use Rattle.std.specs.Prelude.{slice_get}
use Rattle.fm_trail.specs.Trail.{Held, head_of}
use Rattle.fm_machine.proofs.Fronts.{last_level}
use Rattle.fm_machine.proofs.reading.levels_read.Goals as goal

pub returns-else-head-eq0 : goal.returns-else-head-eq0
returns-else-head-eq0 c =
    let s = c.args.state.now in
    let head : c.head-head.result ≡ head_of s.trail.heads c.args.reader = c.head-head.ensures.value ∙ ap (λ (t : Held). head_of t.heads c.args.reader) c.trail-trail.ensures in
    let at = subst (λ (t : Held). slice_get t.entries (c.head-head.result - 1) ≡ Some c.entry.result) c.trail-trail.ensures c.entry.ensures in
    last_level (head_of s.trail.heads c.args.reader) s.trail.entries c.entry.result c.requires.levels (let f = c.if-head-eq0.false in omega (arith, f, head)) (subst (λ (n : ℕ). slice_get s.trail.entries (n - 1) ≡ Some c.entry.result) head at)
