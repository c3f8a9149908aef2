use Rattle.fm_resolve.proofs.MarkLaws.{push_kept, push_there}
use Rattle.fm_resolve.proofs.marks.Marks.touch.Goals as goal

pub returns-in_ok-push-clause-there : goal.returns-in_ok-push-clause-there
returns-in_ok-push-clause-there c = push_there c.args.self.now.touched.items c.push.new.self.items c.args.lit c.in_ok-push.ensures.items

pub returns-in_ok-push-clause-kept : goal.returns-in_ok-push-clause-kept
returns-in_ok-push-clause-kept c = λ k h. push_kept c.args.self.now.touched.items c.push.new.self.items c.args.lit k c.in_ok-push.ensures.items h
