use Rattle.std.proofs.Common.{Option, Some, [], ap, arith, false, map, refl, subst, sym, ℕ, ◌++◌, ◌<◌, ◌∙◌, ◌∷◌, ◌≡◌}
use Rattle.std.specs.Prelude.{slice_get, vec_capacity, vec_len}
use Rattle.fm_bank.specs.declared.atom.Atom.{Atom}
use Rattle.fm_cells.specs.Apart.{ArePairsWithin}
use Rattle.std.specs.List.{cons_option}
use Rattle.fm_cong.specs.Facts.{IsAtomBelow, numbers_of_pair, unequal_by, unequal_of}
use Rattle.fm_cong.specs.Graphs.{Cells}
use Rattle.fm_cong.specs.States.{class_in, count_of}
use Rattle.fm_cong.specs.declared.egraph.Egraph.TheInside.{Inside}
use Rattle.fm_cong.proofs.Keeping.{atom_in, atoms_read, atoms_same, faithful_with, read_held, uses_lent}
use Rattle.fm_cong.proofs.Tracing.{from_within, grown_same, indexed_after, indexed_same, pairs_within, tracked_on}
use Rattle.fm_cong.proofs.Whole.{insides_of, joins_in, read_more, classes_err, unequal_read, whole_room}
use Rattle.fm_cong.proofs.egraph.Egraph.unequal.Goals as goal

pub invariant_of-self : goal.invariant_of-self
invariant_of-self c =
    let g = c.self.inside in
    let w = c.self.invariant in
    let r = c.in_err-reserve.ensures in
    let b = c.reserve.new.self in
    let tracked = tracked_on g.state g.state g.apart b g.marks.items g.cuts.items (insides_of g w) (λ m k. refl) (grown_same g.state.facts.items g.state.facts.items refl) r.cuts (r.indexed (class_in g.state) w.tracked.indexed) w.tracked in
    let h : Inside = record { alloc = g.alloc; members = g.members; types = g.types; flags = g.flags; uses = g.uses; state = g.state; apart = c.reserve.new.self; sorts = g.sorts; marks = g.marks; cuts = g.cuts } in
    whole_room g h w w.sound refl refl (ap (map numbers_of_pair) r.pairs ∙ w.unequal) tracked refl (λ s. refl)

pub read_literal-requires-clause-uses : goal.read_literal-requires-clause-uses
read_literal-requires-clause-uses c = uses_lent c.self.inside c.self.invariant.sound c.as_slice-members.result.now c.as_slice.result.now c.as_slice-members.ensures.value c.as_slice.ensures.value

pub read_literal-requires-clause-atom : goal.read_literal-requires-clause-atom
read_literal-requires-clause-atom c = atom_in c.self.inside c.self.invariant.sound c.args.self.now c.self.view_is c.args.bank.now.atoms c.args.atom c.fact_of-fact.result.atom c.fact_of-fact.ensures.atom c.requires.registered

pub invariant_of-self-in_err-read_literal : goal.invariant_of-self-in_err-read_literal
invariant_of-self-in_err-read_literal c =
    let g = c.self.inside in
    let w = c.self.invariant in
    let e = c.in_err-read_literal.ensures in
    let facts = ap (λ (x : Cells). x.facts) e.err in
    let atoms = atoms_same (count_of g.state) (count_of c.read_literal.new.state) g.state.facts.items c.read_literal.new.state.facts.items e.nodes facts c.self.invariant.sound.atoms in
    let sound = faithful_with c.self.inside c.self.invariant.sound c.read_literal.new.state c.as_slice-members.result.now c.as_slice-members.ensures.value e.steady e.quiet (omega (arith, e.entered, c.self.invariant.sound.entered)) e.kept e.nodes atoms in
    let r = c.in_ok-reserve.ensures in
    let b = c.reserve.new.self in
    let t = c.read_literal.new.state in
    let same = classes_err g.state t e.err in
    let tracked = tracked_on g.state t g.apart b g.marks.items g.cuts.items (insides_of g w) e.classes (grown_same g.state.facts.items t.facts.items facts) r.cuts (indexed_same g.state t b same (r.indexed (class_in g.state) w.tracked.indexed)) w.tracked in
    let h : Inside = record { alloc = g.alloc; members = g.members; types = g.types; flags = g.flags; uses = g.uses; state = c.read_literal.new.state; apart = c.reserve.new.self; sorts = g.sorts; marks = g.marks; cuts = g.cuts } in
    whole_room g h w sound refl refl (ap (map numbers_of_pair) r.pairs ∙ (w.unequal ∙ sym (ap unequal_of facts))) tracked facts (λ s. refl)

pub track-requires-clause-within : goal.track-requires-clause-within
track-requires-clause-within c =
    let g = c.self.inside in
    let w = c.self.invariant in
    let here = pairs_within (count_of g.state) g.state.facts.items g.apart w.unequal w.sound.atoms in
    subst (λ (k : ℕ). ArePairsWithin k c.reserve.new.self.pairs.items) (sym c.in_ok-read_literal.ensures.nodes) (subst (ArePairsWithin (count_of g.state)) (sym c.in_ok-reserve.ensures.pairs) here)

pub note_pair-requires-clause-room : goal.note_pair-requires-clause-room
note_pair-requires-clause-room c = subst (λ v. vec_len v < vec_capacity v) (sym c.track.ensures.pairs) c.in_ok-reserve.ensures.room

pub note_pair-requires-clause-atom : goal.note_pair-requires-clause-atom
note_pair-requires-clause-atom c =
    let here = atom_in c.self.inside c.self.invariant.sound c.args.self.now c.self.view_is c.args.bank.now.atoms c.args.atom c.fact_of-fact.result.atom c.fact_of-fact.ensures.atom c.requires.registered in
    subst (λ (k : ℕ). IsAtomBelow k c.fact_of-fact.result.atom) (sym c.in_ok-read_literal.ensures.nodes) here

pub track-requires-clause-class : goal.track-requires-clause-class
track-requires-clause-class c = from_within c.self.inside.state c.read_literal.new.state c.mark_of-from.result c.in_ok-read_literal.ensures.logged c.mark_of-from.ensures.class

pub invariant_of-self-2 : goal.invariant_of-self-2
invariant_of-self-2 c =
    let g = c.self.inside in
    let w = c.self.invariant in
    let e = c.in_ok-read_literal.ensures in
    let t = c.read_literal.new.state in
    let fact = c.fact_of-fact.result in
    let here = atom_in c.self.inside c.self.invariant.sound c.args.self.now c.self.view_is c.args.bank.now.atoms c.args.atom fact.atom c.fact_of-fact.ensures.atom c.requires.registered in
    let atoms = atoms_read (count_of g.state) (count_of c.read_literal.new.state) g.state.facts.items c.read_literal.new.state.facts.items fact e.nodes e.facts here c.self.invariant.sound.atoms in
    let r = c.in_ok-reserve.ensures in
    let a = c.reserve.new.self in
    let b = c.track.new.apart in
    let d = c.note_pair.new.apart in
    let same_pairs = ap (λ v. v.items) c.track.ensures.pairs ∙ r.pairs in
    let followed = indexed_after g.state t a b c.mark_of-from.result e.logged c.mark_of-from.ensures.class e.coarser e.steady.working.rings.root c.track.ensures.joins (r.indexed (class_in g.state) w.tracked.indexed) in
    record {
      sound = faithful_with c.self.inside c.self.invariant.sound c.read_literal.new.state c.as_slice-members.result.now c.as_slice-members.ensures.value e.steady e.quiet (omega (arith, e.entered, c.self.invariant.sound.entered)) e.kept e.nodes atoms;
      unequal = c.note_pair.ensures.pairs ∙ ((λ i. map numbers_of_pair (same_pairs i) ++ cons_option (unequal_by fact) []) ∙ ((λ i. w.unequal i ++ cons_option (unequal_by fact) []) ∙ sym (unequal_read g.state.facts.items t.facts.items fact e.facts)));
      tracked = tracked_on g.state t g.apart d g.marks.items g.cuts.items (insides_of g w) e.classes (fact ∷ [], e.facts) (λ class x k. c.note_pair.ensures.cuts class x (c.track.ensures.cuts class x (r.cuts class x k))) (c.note_pair.ensures.indexed e.steady.working.rings.root followed) w.tracked;
      read = read_more g.members.items g.state.facts.items t.facts.items fact e.facts (joins_in g c.args.self.now c.self.view_is c.args.bank.now.atoms c.args.atom fact.atom c.fact_of-fact.ensures.atom c.requires.registered) w.read;
      sorts = w.sorts;
    }

some_one : (o : Option Atom) (a b : Atom) → o ≡ Some a → o ≡ Some b → b ≡ a
some_one o a b p q = cc

pub returns-clause-read : goal.returns-clause-read
returns-clause-read c = λ a there.
    let e = c.in_ok-read_literal.ensures in
    let fact = c.fact_of-fact in
    read_held c.self.inside c.self.invariant.sound c.args.self.now c.self.view_is c.read_literal.new.state c.args.atom false a c.fact_of-fact.result e.facts e.entered fact.ensures.lit (some_one (slice_get c.args.bank.now.atoms c.args.atom.0) a fact.result.atom there fact.ensures.atom)
