use Rattle.std.proofs.Common.{List, Some, ap, arith, get_or, length, map, refl, subst, sym, take, ℕ, ◌<◌, ◌∙◌, ◌≡◌, ◌≤◌}
use Rattle.std.specs.Prelude.{slice_get}
use Rattle.std.proofs.lemmas.Option.{slice_get_read}
use Rattle.std.proofs.lemmas.List.Elements.{All-take}
use Rattle.fm_bank.specs.Closure.{Shape}
use Rattle.fm_cells.specs.declared.apart.Cut.{Cut}
use Rattle.fm_cong.specs.Facts.{IsAtomBelow, numbers_of_pair, unequal_of}
use Rattle.fm_cong.specs.States.{count_of}
use Rattle.fm_cong.specs.Faithful.{AreMarks, IsSound}
use Rattle.fm_cong.specs.Graphs.{cells_of}
use Rattle.fm_cong.specs.Held.{Held, JoinsRegistered}
use Rattle.fm_cong.specs.Levels.{IsBefore, IsSteady, levels_of}
use Rattle.fm_cong.specs.Tracked.{IsCutFor, IsTracked}
use Rattle.fm_cong.specs.declared.fact.Fact.{Fact}
use Rattle.fm_cong.specs.declared.mark.Mark.{Mark}
use Rattle.fm_cong.proofs.Holding.{level_at, levels_cut, levels_length, marks_cut}
use Rattle.fm_cong.proofs.Keeping.{atoms_same}
use Rattle.fm_cong.proofs.Noting.{get_any}
use Rattle.fm_cong.proofs.Stacking.{all_before}
use Rattle.fm_cong.proofs.Tracing.{cut_at, tracked_cut}
use Rattle.fm_cong.proofs.Whole.{AreRead, cut_unequal, map_take}
use Rattle.fm_cong.proofs.egraph.EgraphUndo.undo_to.Goals as goal

pub invariant_of-self : goal.invariant_of-self
invariant_of-self c =
    let g = c.self.inside in
    let w = c.self.invariant in
    let f = c.self.invariant.sound in
    let m = c.index-mark.result.now in
    let marks = c.self.inside.marks.items in
    let below : c.args.level < length c.self.inside.marks.items = omega (arith, levels_length g.state.facts.items marks, ap (λ (h : Held). length h.levels) c.self.view_is, c.requires) in
    let at : (d : Mark) → m ≡ get_or marks c.args.level d = λ d. c.index-mark.ensures ∙ get_any marks c.args.level m d below in
    let e = c.undo.ensures in
    let low = f.marks.low c.args.level m below in
    let fine : m.entered ≤ length c.self.inside.members.items = subst (λ (n : Mark). n.entered ≤ length c.self.inside.members.items) (sym (at m)) low in
    let sound : IsSound g.members.items g.uses.items g.flags.items c.undo.new.state c.truncate.new.self.items = record {
      steady = subst (λ (ss : List Shape). IsSteady ss (cells_of c.undo.new.state)) c.as_slice.ensures.value e.steady;
      quiet = e.quiet;
      entered = omega (arith, e.entered, fine);
      uses = f.uses;
      flags = f.flags;
      objects = omega (arith, f.objects, e.nodes);
      atoms = atoms_same (count_of g.state) (count_of c.undo.new.state) (take m.facts g.state.facts.items) c.undo.new.state.facts.items e.nodes e.facts (All-take (λ (a : Fact). IsAtomBelow (count_of g.state) a.atom) m.facts g.state.facts.items f.atoms);
      marks = subst (λ (ms : List Mark). AreMarks g.members.items c.undo.new.state ms) (sym c.truncate.ensures.items) (marks_cut g.members.items g.state c.undo.new.state marks c.args.level m below at e.kept f.marks);
    } in
    let cut = c.index-cut.result.now in
    let cut_is : (x : Cut) → cut ≡ get_or g.cuts.items c.args.level x = λ x. c.index-cut.ensures ∙ get_any g.cuts.items c.args.level cut x (omega (arith, below, w.tracked.long)) in
    let before : (i : ℕ) (d : Mark) → i < c.args.level → IsBefore (get_or marks i d) m = λ i d lt. subst (λ (x : Mark). IsBefore (get_or marks i d) x) (sym (at d)) (f.marks.ordered i c.args.level d (omega (arith, lt)) below) in
    let here : IsCutFor g.state g.apart m cut = cut_at g.state c.undo.new.state g.apart c.rewind.new.self marks g.cuts.items c.args.level m cut below at cut_is before e.classes e.facts c.rewind.ensures.right c.rewind.ensures.below w.tracked in
    let tracked = tracked_cut g.state c.undo.new.state g.apart c.rewind.new.self marks g.cuts.items c.args.level m cut below at cut_is before e.classes e.facts c.rewind.ensures.right c.rewind.ensures.below w.tracked in
    record {
      sound = sound;
      unequal = ap (map numbers_of_pair) c.rewind.ensures.pairs ∙ (map_take numbers_of_pair cut.pairs g.apart.pairs.items ∙ (ap (take cut.pairs) w.unequal ∙ (cut_unequal g.state.facts.items m.facts cut.pairs here.count ∙ sym (ap unequal_of e.facts))));
      tracked = subst (λ (ms : List Mark). IsTracked c.undo.new.state c.rewind.new.self ms c.truncate-2.new.self.items) (sym c.truncate.ensures.items) (subst (λ (xs : List Cut). IsTracked c.undo.new.state c.rewind.new.self (take c.args.level marks) xs) (sym c.truncate-2.ensures.items) tracked);
      read = subst (AreRead g.members.items) (sym e.facts) (All-take (λ (a : Fact). JoinsRegistered g.members.items a.atom) m.facts g.state.facts.items w.read);
      sorts = w.sorts;
    }

pub returns-clause-levels : goal.returns-clause-levels
returns-clause-levels c =
    let g = c.self.inside in
    let m = c.index-mark.result.now in
    let marks = c.self.inside.marks.items in
    let below : c.args.level < length c.self.inside.marks.items = omega (arith, levels_length g.state.facts.items marks, ap (λ (h : Held). length h.levels) c.self.view_is, c.requires) in
    let at : (d : Mark) → m ≡ get_or marks c.args.level d = λ d. c.index-mark.ensures ∙ get_any marks c.args.level m d below in
    let before = all_before marks c.args.level m c.self.invariant.sound.marks.ordered below at in
    (λ i. levels_of (c.undo.ensures.facts i) (c.truncate.ensures.items i)) ∙ (levels_cut g.state.facts.items marks c.args.level m before ∙ ap (λ (h : Held). take c.args.level h.levels) c.self.view_is)

pub returns-clause-content : goal.returns-clause-content
returns-clause-content c =
    let g = c.self.inside in
    let m = c.index-mark.result.now in
    let marks = c.self.inside.marks.items in
    let below : c.args.level < length c.self.inside.marks.items = omega (arith, levels_length g.state.facts.items marks, ap (λ (h : Held). length h.levels) c.self.view_is, c.requires) in
    let there : slice_get marks c.args.level ≡ Some m = slice_get_read marks (length marks) c.args.level m refl below c.index-mark.ensures in
    ap (λ (h : Held). slice_get h.levels c.args.level) (sym c.self.view_is) ∙ (level_at g.state.facts.items marks c.args.level m there ∙ ap (λ (fs : List Fact). Some fs) (sym c.undo.ensures.facts))
