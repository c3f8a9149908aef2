use Rattle.std.proofs.Common.{◌+◌, List, subst}
use Rattle.std.specs.Prelude.{◌↔◌, IsTrue}
use Rattle.fm_bank.specs.Closure.{Shape}
use Rattle.fm_cong.specs.Held.{AreEqual, Held}
use Rattle.fm_cong.specs.States.{AreRelated}
use Rattle.fm_cong.proofs.Keeping.{node_in}
use Rattle.fm_cong.proofs.egraph.Egraph.same.Goals as goal

pub are_same-requires-clause-node : goal.are_same-requires-clause-node
are_same-requires-clause-node c = node_in c.self.inside c.self.invariant.sound c.args.self.now c.self.view_is c.args.a.0 c.requires.a

pub are_same-requires-clause-other : goal.are_same-requires-clause-other
are_same-requires-clause-other c = node_in c.self.inside c.self.invariant.sound c.args.self.now c.self.view_is c.args.b.0 c.requires.b

pub returns : goal.returns
returns c =
    subst (λ (h : Held). IsTrue c.are_same.result ↔ AreEqual h (c.args.a.0 + 2) (c.args.b.0 + 2)) c.self.view_is
    (subst (λ (ss : List Shape). IsTrue c.are_same.result ↔ AreRelated ss c.self.inside.state (c.args.a.0 + 2) (c.args.b.0 + 2)) c.as_slice.ensures.value c.are_same.ensures)
