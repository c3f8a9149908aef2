use Rattle.std.proofs.Common.{ap, arith, map, refl, subst, sym, ℕ, ◌∙◌}
use Rattle.fm_cells.specs.Apart.{ArePairsWithin}
use Rattle.fm_cong.specs.Facts.{numbers_of_pair, unequal_of}
use Rattle.fm_cong.specs.Graphs.{Cells}
use Rattle.fm_cong.specs.States.{count_of}
use Rattle.fm_cong.specs.declared.egraph.Egraph.TheInside.{Inside}
use Rattle.fm_cong.proofs.Keeping.{atoms_same, faithful_with, uses_lent}
use Rattle.fm_cong.proofs.Tracing.{from_within, grown_same, indexed_after, indexed_same, pairs_within, tracked_on}
use Rattle.fm_cong.proofs.Whole.{insides_of, AreRead, classes_err, whole_room}
use Rattle.fm_cong.proofs.egraph.Egraph.settle.Goals as goal

pub settle-requires-clause-uses : goal.settle-requires-clause-uses
settle-requires-clause-uses c = uses_lent c.self.inside c.self.invariant.sound c.as_slice-members.result.now c.as_slice.result.now c.as_slice-members.ensures.value c.as_slice.ensures.value

pub invariant_of-self : goal.invariant_of-self
invariant_of-self c =
    let g = c.self.inside in
    let w = c.self.invariant in
    let e = c.in_err-settle.ensures in
    let entered = ap (λ (x : Cells). x.entered) e.err in
    let sound = faithful_with c.self.inside c.self.invariant.sound c.settle.new.state c.as_slice-members.result.now c.as_slice-members.ensures.value e.steady e.quiet (omega (arith, entered, c.self.invariant.sound.entered)) e.kept e.nodes (atoms_same (count_of g.state) (count_of c.settle.new.state) g.state.facts.items c.settle.new.state.facts.items e.nodes e.facts c.self.invariant.sound.atoms) in
    let t = c.settle.new.state in
    let same = classes_err g.state t e.err in
    let tracked = tracked_on g.state t g.apart g.apart g.marks.items g.cuts.items (insides_of g w) e.classes (grown_same g.state.facts.items t.facts.items e.facts) (λ class x k. k) (indexed_same g.state t g.apart same w.tracked.indexed) w.tracked in
    let h : Inside = record { alloc = g.alloc; members = g.members; types = g.types; flags = g.flags; uses = g.uses; state = c.settle.new.state; apart = g.apart; sorts = g.sorts; marks = g.marks; cuts = g.cuts } in
    whole_room g h w sound refl refl (w.unequal ∙ sym (ap unequal_of e.facts)) tracked e.facts (λ s. refl)

pub track-requires-clause-within : goal.track-requires-clause-within
track-requires-clause-within c =
    let g = c.self.inside in
    let w = c.self.invariant in
    subst (λ (k : ℕ). ArePairsWithin k g.apart.pairs.items) (sym c.in_ok-settle.ensures.nodes) (pairs_within (count_of g.state) g.state.facts.items g.apart w.unequal w.sound.atoms)

pub track-requires-clause-class : goal.track-requires-clause-class
track-requires-clause-class c = from_within c.self.inside.state c.settle.new.state c.mark_of-from.result c.in_ok-settle.ensures.logged c.mark_of-from.ensures.class

pub invariant_of-self-2 : goal.invariant_of-self-2
invariant_of-self-2 c =
    let g = c.self.inside in
    let w = c.self.invariant in
    let e = c.in_ok-settle.ensures in
    let t = c.settle.new.state in
    let b = c.track.new.apart in
    record {
      sound = faithful_with c.self.inside c.self.invariant.sound c.settle.new.state c.as_slice-members.result.now c.as_slice-members.ensures.value e.steady e.quiet (omega (arith, e.entered, c.as_slice-members.ensures.len)) e.kept e.nodes (atoms_same (count_of g.state) (count_of c.settle.new.state) g.state.facts.items c.settle.new.state.facts.items e.nodes e.facts c.self.invariant.sound.atoms);
      tracked = tracked_on g.state t g.apart b g.marks.items g.cuts.items (insides_of g w) e.classes (grown_same g.state.facts.items t.facts.items e.facts) c.track.ensures.cuts (indexed_after g.state t g.apart b c.mark_of-from.result e.logged c.mark_of-from.ensures.class e.coarser e.steady.working.rings.root c.track.ensures.joins w.tracked.indexed) w.tracked;
      unequal = ap (λ v. map numbers_of_pair v.items) c.track.ensures.pairs ∙ (w.unequal ∙ sym (ap unequal_of e.facts));
      read = subst (AreRead g.members.items) (sym e.facts) w.read;
      sorts = w.sorts;
    }
