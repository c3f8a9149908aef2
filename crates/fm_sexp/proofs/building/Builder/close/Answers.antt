use Rattle.std.proofs.Common.{ap, ◌∙◌}
use Rattle.fm_sexp.proofs.Trees.{closed_to}
use Rattle.fm_sexp.proofs.building.Builder.close.Goals as goal

pub returns-in_ok-push-clause-so_far : goal.returns-in_ok-push-clause-so_far
returns-in_ok-push-clause-so_far c =
    closed_to c.pop.new.self.items c.args.self.now.frames.items c.in-Some.field-0 c.args.self.now.current.items c.replace-items.new.dest.items c.from_vec-items.result c.push.new.self.items c.args.end
    c.in-Some.ensures.items (ap (λ v. v.items) c.replace-items.ensures.after) (c.from_vec-items.ensures ∙ (c.shrink_to_fit.ensures.items ∙ ap (λ v. v.items) c.replace-items.ensures.value)) c.in_ok-push.ensures.items
