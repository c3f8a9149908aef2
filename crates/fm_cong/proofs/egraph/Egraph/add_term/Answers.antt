use Rattle.std.proofs.Common.{List, [], ap, arith, false, inl, inr, length, map, refl, subst, sym, true, ℕ, ◌++◌, ◌+◌, ◌∙◌, ◌∷◌, ◌≡◌}
use Rattle.std.specs.Prelude.{slice_set}
use Rattle.std.specs.Vec.{with_item}
use Rattle.std.proofs.lemmas.Bool.Decides.{eqb_tells}
use Rattle.fm_bank.specs.Closure.{Shape}
use Rattle.fm_cong.specs.Facts.{numbers_of_pair, unequal_of}
use Rattle.fm_cong.specs.Growth.{HasPlace, is_flagged}
use Rattle.fm_cong.specs.States.{count_of}
use Rattle.fm_cong.specs.Tables.{AreUses}
use Rattle.fm_cong.specs.declared.egraph.Egraph.TheInside.{Inside}
use Rattle.fm_cong.proofs.Adding.{args_below, faithful_added, faithful_room, faithful_same, number_is, uses_more, uses_with}
use Rattle.fm_cong.proofs.Keeping.{atoms_more}
use Rattle.fm_cong.proofs.Rooms.{insides_room, tracked_room}
use Rattle.fm_cong.proofs.Tracing.{from_within, grown_same, indexed_after, indexed_same, pairs_within, tracked_on}
use Rattle.fm_cong.proofs.Whole.{AreRead, read_with, sorts_same, sorts_with, whole_room}
use Rattle.fm_cong.proofs.egraph.Egraph.add_term.Goals as goal

pub invariant_of-self : goal.invariant_of-self
invariant_of-self c =
    let g = c.self.inside in
    let w = c.self.invariant in
    let a = c.announce_type.ensures in
    let h : Inside = record { alloc = g.alloc; members = g.members; types = c.announce_type.new.types; flags = g.flags; uses = g.uses; state = g.state; apart = g.apart; sorts = c.announce_type.new.sorts; marks = g.marks; cuts = g.cuts } in
    whole_room g h w w.sound refl a.types w.unequal w.tracked refl a.lists

pub make_room-requires : goal.make_room-requires
make_room-requires c = record { args = args_below c.self.inside c.args.self.now c.args.bank.now.terms c.args.term.0 c.in_ok-member.member c.self.invariant.sound c.self.view_is c.requires.args c.in_ok-member.ensures }

pub invariant_of-self-in_err-make_room : goal.invariant_of-self-in_err-make_room
invariant_of-self-in_err-make_room c =
    let g = c.self.inside in
    let w = c.self.invariant in
    let a = c.announce_type.ensures in
    let e = c.in_err-make_room.ensures in
    let t = c.make_room.new.state in
    let h : Inside = record { alloc = g.alloc; members = g.members; types = c.announce_type.new.types; flags = c.make_room.new.flags; uses = c.make_room.new.uses; state = c.make_room.new.state; apart = g.apart; sorts = c.announce_type.new.sorts; marks = g.marks; cuts = g.cuts } in
    whole_room g h w (faithful_room g h c.self.invariant.sound refl refl e.state e.flags e.uses) refl a.types (w.unequal ∙ sym (ap unequal_of e.state.facts)) (tracked_room g w t e.state) e.state.facts a.lists

pub put_member-requires-clause-steady : goal.put_member-requires-clause-steady
put_member-requires-clause-steady c = c.in_ok-make_room.ensures.state.steady c.self.inside.members.items c.self.invariant.sound.steady

pub put_member-requires-clause-uses : goal.put_member-requires-clause-uses
put_member-requires-clause-uses c =
    let g = c.self.inside in
    let m = c.in_ok-member.member in
    let e = c.in_ok-make_room.ensures in
    let us = c.make_room.new.uses.items in
    let at : c.len-place.result ≡ length c.self.inside.members.items = omega (arith, c.len-place.ensures, g.members.ok.0) in
    let place = subst (λ (k : ℕ). HasPlace us c.in_ok-member.member.args k) at e.place in
    subst (λ (vs : List (List ℕ)). AreUses (c.self.inside.members.items ++ c.in_ok-member.member ∷ []) vs) (sym c.as_slice-2.ensures.value) (uses_with g.members.items m us (uses_more g.members.items g.uses.items us e.uses c.self.invariant.sound.uses) place)

pub invariant_of-self-in_err-put_member : goal.invariant_of-self-in_err-put_member
invariant_of-self-in_err-put_member c =
    let g = c.self.inside in
    let w = c.self.invariant in
    let a = c.announce_type.ensures in
    let r = c.in_ok-make_room.ensures in
    let e = c.in_err-put_member.ensures in
    let room : Inside = record { alloc = g.alloc; members = g.members; types = c.announce_type.new.types; flags = c.make_room.new.flags; uses = c.make_room.new.uses; state = c.make_room.new.state; apart = g.apart; sorts = c.announce_type.new.sorts; marks = g.marks; cuts = g.cuts } in
    let h : Inside = record { alloc = g.alloc; members = c.put_member.new.members; types = c.announce_type.new.types; flags = c.make_room.new.flags; uses = c.make_room.new.uses; state = c.put_member.new.state; apart = g.apart; sorts = c.announce_type.new.sorts; marks = g.marks; cuts = g.cuts } in
    let room_state = c.make_room.new.state in
    let t = c.put_member.new.state in
    let facts = e.facts ∙ r.state.facts in
    let first = tracked_room g w room_state r.state in
    let tracked = tracked_on room_state t g.apart g.apart g.marks.items g.cuts.items (insides_room g w room_state r.state) e.classes (grown_same room_state.facts.items t.facts.items e.facts) (λ class x k. k) (indexed_same room_state t g.apart e.same first.indexed) first in
    let sound = faithful_same room h (faithful_room g room c.self.invariant.sound refl refl r.state r.flags r.uses) e.err refl refl refl e.steady e.quiet e.entered e.kept e.nodes e.facts in
    whole_room g h w sound e.err a.types (w.unequal ∙ sym (ap unequal_of facts)) tracked facts a.lists

pub track-requires-clause-within : goal.track-requires-clause-within
track-requires-clause-within c =
    let g = c.self.inside in
    let w = c.self.invariant in
    let n = count_of c.put_member.new.state in
    pairs_within n g.state.facts.items g.apart w.unequal (atoms_more (count_of g.state) n g.state.facts.items g.state.facts.items (omega (arith, c.in_ok-make_room.ensures.state.nodes, c.in_ok-put_member.ensures.nodes)) refl w.sound.atoms)

pub track-requires-clause-class : goal.track-requires-clause-class
track-requires-clause-class c = from_within c.make_room.new.state c.put_member.new.state c.mark_of-from.result c.in_ok-put_member.ensures.logged c.mark_of-from.ensures.class

pub invariant_of-self-2 : goal.invariant_of-self-2
invariant_of-self-2 c =
    let g = c.self.inside in
    let w = c.self.invariant in
    let m = c.in_ok-member.member in
    let a = c.in_ok-announce_type.ensures in
    let r = c.in_ok-make_room.ensures in
    let e = c.in_ok-put_member.ensures in
    let n = c.note_type.ensures in
    let us = c.make_room.new.uses.items in
    let room : Inside = record { alloc = g.alloc; members = g.members; types = c.announce_type.new.types; flags = c.make_room.new.flags; uses = c.make_room.new.uses; state = c.make_room.new.state; apart = g.apart; sorts = c.announce_type.new.sorts; marks = g.marks; cuts = g.cuts } in
    let h : Inside = record { alloc = g.alloc; members = c.put_member.new.members; types = c.note_type.new.types; flags = with_item c.make_room.new.flags c.args.term.0 true; uses = c.make_room.new.uses; state = c.put_member.new.state; apart = g.apart; sorts = c.note_type.new.sorts; marks = g.marks; cuts = g.cuts } in
    let at : c.len-place.result ≡ length c.self.inside.members.items = omega (arith, c.len-place.ensures, g.members.ok.0) in
    let place = subst (λ (k : ℕ). HasPlace us c.in_ok-member.member.args k) at r.place in
    let uses = uses_with g.members.items m us (uses_more g.members.items g.uses.items us r.uses c.self.invariant.sound.uses) place in
    let number = number_is c.args.bank.now.terms c.args.term.0 m c.in_ok-member.ensures in
    let flags = ap (λ (k : ℕ). slice_set c.make_room.new.flags.items k true) (sym number) in
    let facts = e.facts ∙ r.state.facts in
    let sorted = sorts_with g.members.items m c.announce_type.new.types.items c.announce_type.new.sorts c.note_type.new.sorts c.args.term number (sorts_same g.members.items g.members.items g.types.items c.announce_type.new.types.items g.sorts c.announce_type.new.sorts refl a.types a.lists w.sorts) c.ty-ty.result n.noted in
    let room_state = c.make_room.new.state in
    let t = c.put_member.new.state in
    let b = c.track.new.apart in
    let first = tracked_room g w room_state r.state in
    record {
      sound = faithful_added room h m (faithful_room g room c.self.invariant.sound refl refl r.state r.flags r.uses) e.members refl e.steady e.quiet e.entered e.kept e.nodes e.facts r.known uses r.flag flags;
      unequal = ap (λ v. map numbers_of_pair v.items) c.track.ensures.pairs ∙ (w.unequal ∙ sym (ap unequal_of facts));
      tracked = tracked_on room_state t g.apart b g.marks.items g.cuts.items (insides_room g w room_state r.state) e.classes (grown_same room_state.facts.items t.facts.items e.facts) c.track.ensures.cuts (indexed_after room_state t g.apart b c.mark_of-from.result e.logged c.mark_of-from.ensures.class e.coarser e.steady.working.rings.root c.track.ensures.joins first.indexed) first;
      read = subst (λ (ss : List Shape). AreRead ss c.put_member.new.state.facts.items) (sym e.members) (subst (AreRead (g.members.items ++ m ∷ [])) (sym facts) (read_with g.members.items m g.state.facts.items w.read));
      sorts = sorts_same (g.members.items ++ m ∷ []) c.put_member.new.members.items (c.announce_type.new.types.items ++ (c.args.term, c.ty-ty.result) ∷ []) c.note_type.new.types.items c.note_type.new.sorts c.note_type.new.sorts e.members n.types (λ k. refl) sorted;
    }
