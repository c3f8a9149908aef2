use Rattle.fm_cert.specs.Parts.{literal_in}
use Rattle.fm_cert.proofs.PartLists.{items_more, items_stop}
use Rattle.fm_cert.proofs.parts.literals_of.Goals as goal

pub returns-in-None : goal.returns-in-None
returns-in-None c = items_stop (λ s. s.now) literal_in c.args.parts.now c.loop-part.part-index _ c.loop-part.literals.items c.loop-part-test.true c.loop-part.invariant c.in-None.ensures

pub loop-part-preserved : goal.loop-part-preserved
loop-part-preserved c = items_more (λ s. s.now) literal_in c.args.parts.now c.loop-part.part-index _ c.loop-part.literals.items c.push.new.self.items c.in-Some.literal c.loop-part-test.true c.loop-part.invariant c.in-Some.ensures c.in_ok-push-in-Some.ensures.items
