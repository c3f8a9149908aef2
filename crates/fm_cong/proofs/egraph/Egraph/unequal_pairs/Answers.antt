use Rattle.std.proofs.Common.{List, map, sym, subst, ap, ◌∙◌}
use Rattle.std.specs.List.{All}
use Rattle.fm_base.specs.declared.ids.TermId.{TermId}
use Rattle.fm_cong.specs.Facts.{numbers_of_pair, unequal_of}
use Rattle.fm_cong.specs.Held.{AreSidesRegistered, Held}
use Rattle.fm_cong.proofs.Whole.{sides_registered}
use Rattle.fm_cong.proofs.egraph.Egraph.unequal_pairs.Goals as goal

pub returns-clause-pairs : goal.returns-clause-pairs
returns-clause-pairs c = ap (map numbers_of_pair) c.as_slice.ensures.value ∙ (c.self.invariant.unequal ∙ ap (λ (h : Held). unequal_of h.facts) c.self.view_is)

pub returns-clause-registered : goal.returns-clause-registered
returns-clause-registered c =
    let g = c.self.inside in
    let w = c.self.invariant in
    subst (λ (ps : List (TermId × TermId)). All (AreSidesRegistered c.args.self.now.shapes) ps) (sym c.as_slice.ensures.value) (subst (λ (h : Held). All (AreSidesRegistered h.shapes) g.apart.pairs.items) c.self.view_is (sides_registered g.members.items g.state.facts.items g.apart.pairs.items w.unequal w.read))
