use Rattle.std.proofs.Common.{◌++◌, ◌∷◌, [], ap, ◌∙◌}
use Rattle.fm_cong.proofs.Noting.{more_push, more_same, more_uses}
use Rattle.fm_cong.proofs.registry.reach_uses.Goals as goal

pub loop-alloc-preserved : goal.loop-alloc-preserved
loop-alloc-preserved c =
    let us = c.loop-alloc.uses.items in
    let vs = c.push.new.self.items in
    record { kept = more_uses c.args.uses.now.items us vs c.loop-alloc.invariant.kept (more_push us vs (c.in_ok-push.ensures.items ∙ ap (λ u. us ++ u ∷ []) c.new.ensures)) }

pub returns-in_err-push-clause-kept : goal.returns-in_err-push-clause-kept
returns-in_err-push-clause-kept c =
    let us = c.loop-alloc.uses.items in
    let vs = c.push.new.self.items in
    more_uses c.args.uses.now.items us vs c.loop-alloc.invariant.kept (more_same us vs c.in_err-push.ensures.items)
