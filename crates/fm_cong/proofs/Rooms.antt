-- Nodes are added: the index of the false equalities stays as it is.
use Rattle.std.proofs.Common.{ℕ, ◌<◌, length, get_or}
use Rattle.fm_cong.specs.Faithful.{IsWhole}
use Rattle.fm_cong.specs.Levels.{IsInside, KeepsAll}
use Rattle.fm_cong.specs.Tracked.{IsTracked}
use Rattle.fm_cong.specs.declared.egraph.Egraph.TheInside.{Inside}
use Rattle.fm_cong.specs.declared.mark.Mark.{Mark}
use Rattle.fm_cong.specs.declared.state.State.{State}
use Rattle.fm_cong.proofs.Tracing.{grown_same, indexed_same, tracked_on}
use Rattle.fm_cong.proofs.Whole.{insides_of}

module _ (g : Inside) (w : IsWhole g) (t : State) (k : KeepsAll g.state t) where
  pub tracked_room : IsTracked t g.apart g.marks.items g.cuts.items
  tracked_room = tracked_on g.state t g.apart g.apart g.marks.items g.cuts.items (insides_of g w) k.classes (grown_same g.state.facts.items t.facts.items k.facts) (λ class x h. h) (indexed_same g.state t g.apart k.now w.tracked.indexed) w.tracked

  pub insides_room : (i : ℕ) (d : Mark) → i < length g.marks.items → IsInside t (get_or g.marks.items i d)
  insides_room i d lt = k.inside (get_or g.marks.items i d) (insides_of g w i d lt)
