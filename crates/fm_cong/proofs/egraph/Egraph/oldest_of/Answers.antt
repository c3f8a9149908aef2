use Rattle.std.proofs.Common.{◌+◌, ◌-◌, refl, subst, ap, ◌∙◌}
use Rattle.fm_base.specs.declared.ids.TermId.{TermId}
use Rattle.fm_cong.specs.Held.{Held}
use Rattle.fm_cong.specs.Types.{IsOldestOf}
use Rattle.fm_cong.proofs.Choosing.{oldest_is, root_within}
use Rattle.fm_cong.proofs.Keeping.{complete_in, node_in, registered_in}
use Rattle.fm_cong.proofs.egraph.Egraph.oldest_of.Goals as goal

pub least-least-requires-clause-node : goal.least-least-requires-clause-node
least-least-requires-clause-node c = node_in c.self.inside c.self.invariant.sound c.args.self.now c.self.view_is c.args.term.0 c.requires.term

pub least-least-requires-clause-root : goal.least-least-requires-clause-root
least-least-requires-clause-root c =
    let g = c.self.inside in
    root_within g c.self.invariant (complete_in g c.self.invariant.sound c.args.self.now c.self.view_is c.requires.settled) (c.args.term.0 + 2) (node_in g c.self.invariant.sound c.args.self.now c.self.view_is c.args.term.0 c.requires.term)

pub returns : goal.returns
returns c =
    let g = c.self.inside in
    let complete = complete_in g c.self.invariant.sound c.args.self.now c.self.view_is c.requires.settled in
    let here = registered_in g c.self.invariant.sound c.args.self.now c.self.view_is c.args.term.0 c.requires.term in
    let oldest : TermId = record { 0 = c.saturating_sub.result } in
    subst (λ (h : Held). IsOldestOf h c.args.term oldest) c.self.view_is (oldest_is g c.self.invariant complete c.args.term.0 here c.args.term oldest refl (c.saturating_sub.ensures ∙ ap (λ n. n - 2) c.least-least.ensures))
