use Rattle.std.proofs.Common.{◌≡◌, List, sym, subst, ap, ◌∙◌}
use Rattle.std.specs.Prelude.{◌↔◌}
use Rattle.std.specs.List.{Contains, filter}
use Rattle.fm_base.specs.declared.ids.TermId.{TermId}
use Rattle.fm_cells.specs.Ascending.{IsAscending}
use Rattle.fm_cells.specs.Sorts.{AreNodes, is_first, list_of}
use Rattle.fm_cells.proofs.Firsts.{filter_up}
use Rattle.fm_cong.specs.Faithful.{held_in}
use Rattle.fm_cong.specs.Held.{Held}
use Rattle.fm_cong.specs.Types.{AreOldest, IsOldest}
use Rattle.fm_cong.proofs.Choosing.{listed, nodes_of}
use Rattle.fm_cong.proofs.Keeping.{complete_in}
use Rattle.fm_cong.proofs.egraph.Egraph.classes.Goals as goal

pub first_terms-requires : goal.first_terms-requires
first_terms-requires c =
    let g = c.self.inside in
    subst (AreNodes g.state.classes) (sym c.terms-terms.ensures.terms) (nodes_of g c.self.invariant (complete_in g c.self.invariant.sound c.args.self.now c.self.view_is c.requires.settled) c.args.sort)

pub returns : goal.returns
returns c =
    let g = c.self.inside in
    let p = is_first g.state.classes in
    let told = listed g c.self.invariant (complete_in g c.self.invariant.sound c.args.self.now c.self.view_is c.requires.settled) c.args.sort in
    let list : c.in_ok-oldest.oldest.items ≡ filter p (list_of g.sorts c.args.sort.0) = c.in_ok-oldest.ensures ∙ ap (filter p) c.terms-terms.ensures.terms in
    record {
      oldest = subst (λ (h : Held). AreOldest h c.args.sort c.in_ok-oldest.oldest.items) c.self.view_is (record {
        ascending = subst IsAscending (sym c.in_ok-oldest.ensures) (filter_up p c.terms-terms.result.now c.terms-terms.ensures.ascending);
        oldest = subst (λ (xs : List TermId). (t : TermId) → Contains xs t ↔ IsOldest (held_in g) c.args.sort t) (sym list) told;
      });
    }
