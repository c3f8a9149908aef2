use Rattle.std.proofs.Common.{List, Option, sym, subst}
use Rattle.fm_cells.specs.declared.edge.Edge.{Edge}
use Rattle.fm_cong.specs.Explained.{IsExplained}
use Rattle.fm_cong.specs.Faithful.{held_in}
use Rattle.fm_cong.specs.Held.{Held}
use Rattle.fm_cong.proofs.Explaining.{explained_in}
use Rattle.fm_cong.proofs.Keeping.{complete_in}
use Rattle.fm_cong.proofs.egraph.Egraph.links.Goals as goal

pub returns : goal.returns
returns c =
    let g = c.self.inside in
    let told = explained_in g (complete_in g c.self.invariant.sound c.args.self.now c.self.view_is c.requires.settled) in
    record { explained = subst (λ (h : Held). IsExplained h c.as_slice.result.now) c.self.view_is (subst (λ (ls : List (Option Edge)). IsExplained (held_in g) ls) (sym c.as_slice.ensures.value) told) }
