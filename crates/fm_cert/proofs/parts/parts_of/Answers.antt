use Rattle.std.proofs.Common.{◌≡◌, ◌++◌, ℕ, List, map, sym, subst, ◌∙◌}
use Rattle.fm_cert.specs.Parts.{parts_in}
use Rattle.fm_cert.proofs.PartLists.{cut_shorter, parts_last, parts_more, pushed}
use Rattle.fm_cert.proofs.parts.parts_of.Goals as goal

pub loop-part-smaller : goal.loop-part-smaller
loop-part-smaller c = cut_shorter 32 c.loop-part.rest.now c.in-Some.part.now c.in-Some.more.now c.in-Some.ensures

pub loop-part-preserved : goal.loop-part-preserved
loop-part-preserved c =
    let more = parts_more (map (λ s. s.now) c.loop-part.parts.items) c.in-Some.part.now c.in-Some.more.now c.loop-part.rest.now c.args.line.now c.in-Some.ensures c.loop-part.invariant in
    let is = pushed (λ s. s.now) c.loop-part.parts.items c.push.new.self.items c.in-Some.part c.in_ok-push.ensures.items in
    subst (λ (vs : List (List ℕ)). vs ++ parts_in c.in-Some.more.now ≡ parts_in c.args.line.now) (sym is) more

pub returns : goal.returns
returns c = pushed (λ s. s.now) c.loop-part.parts.items c.push-2.new.self.items c.loop-part.rest c.in_ok-push-2.ensures.items ∙ parts_last (map (λ s. s.now) c.loop-part.parts.items) c.loop-part.rest.now c.args.line.now c.in_default.ensures c.loop-part.invariant
