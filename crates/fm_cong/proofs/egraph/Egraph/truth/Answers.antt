use Rattle.std.proofs.Common.{subst}
use Rattle.fm_cong.specs.Faithful.{held_in}
use Rattle.fm_cong.specs.Graphs.{cells_of}
use Rattle.fm_cong.specs.Held.{Held, IsTruth}
use Rattle.fm_cong.specs.States.{class_in}
use Rattle.fm_cong.proofs.Asking.{truth_tells}
use Rattle.fm_cong.proofs.Keeping.{complete_in, node_in}
use Rattle.fm_cong.proofs.Reading.{classes_exact}
use Rattle.fm_cong.proofs.egraph.Egraph.truth.Goals as goal

pub truth_of-requires-clause-node : goal.truth_of-requires-clause-node
truth_of-requires-clause-node c = node_in c.self.inside c.self.invariant.sound c.args.self.now c.self.view_is c.args.term.0 c.requires.term

pub returns : goal.returns
returns c =
    let g = c.self.inside in
    let complete = complete_in g c.self.invariant.sound c.args.self.now c.self.view_is c.requires.settled in
    let told = truth_tells (held_in g) (class_in g.state) (classes_exact g.members.items (cells_of g.state) complete) c.args.term.0 c.truth_of.result c.truth_of.ensures in
    record { truth = subst (λ (h : Held). IsTruth h c.args.term.0 c.truth_of.result) c.self.view_is told }
