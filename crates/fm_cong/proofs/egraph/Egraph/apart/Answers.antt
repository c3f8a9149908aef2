use Rattle.std.proofs.Common.{subst, sym, ◌∙◌}
use Rattle.fm_cong.specs.Graphs.{cells_of, pairs_of}
use Rattle.fm_cong.specs.Held.{AreUnequal, Held}
use Rattle.fm_cong.proofs.Asking.{parted_from, parted_to}
use Rattle.fm_cong.proofs.Keeping.{complete_in, node_in}
use Rattle.fm_cong.proofs.Reading.{classes_exact}
use Rattle.fm_cong.proofs.egraph.Egraph.apart.Goals as goal

pub is_apart-requires-clause-node : goal.is_apart-requires-clause-node
is_apart-requires-clause-node c = node_in c.self.inside c.self.invariant.sound c.args.self.now c.self.view_is c.args.a.0 c.requires.a

pub is_apart-requires-clause-other : goal.is_apart-requires-clause-other
is_apart-requires-clause-other c = node_in c.self.inside c.self.invariant.sound c.args.self.now c.self.view_is c.args.b.0 c.requires.b

pub returns : goal.returns
returns c =
    let g = c.self.inside in
    let a = c.args.a.0 in
    let b = c.args.b.0 in
    let facts = g.state.facts.items in
    let cells = g.state.classes.class.cells.items in
    let complete = complete_in g c.self.invariant.sound c.args.self.now c.self.view_is c.requires.settled in
    let exact = classes_exact g.members.items (cells_of g.state) complete in (
      (λ t. subst (λ (h : Held). AreUnequal h c.args.a.0 c.args.b.0) c.self.view_is (parted_from g.members.items (pairs_of facts) cells exact a b facts (sym c.is_apart.ensures ∙ t))),
      (λ h. c.is_apart.ensures ∙ parted_to g.members.items (pairs_of facts) cells exact a b facts (subst (λ (k : Held). AreUnequal k c.args.a.0 c.args.b.0) (sym c.self.view_is) h)),
    )

pub is_apart-requires-clause-pairs : goal.is_apart-requires-clause-pairs
is_apart-requires-clause-pairs c = c.self.invariant.unequal

pub is_apart-requires-clause-indexed : goal.is_apart-requires-clause-indexed
is_apart-requires-clause-indexed c = c.self.invariant.tracked.indexed

pub is_apart-requires-clause-roots : goal.is_apart-requires-clause-roots
is_apart-requires-clause-roots c = c.self.invariant.sound.steady.working.rings.root
