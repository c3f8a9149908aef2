use Rattle.fm_arena.proofs.Weighing.{pushed_kept}
use Rattle.fm_arena.proofs.arena.add.Goals as goal

pub returns-clause-kept : goal.returns-clause-kept
returns-clause-kept c = λ h k. pushed_kept c.args.entries.now.items c.push.new.self.items c.args.entry c.in_ok-push.ensures.items h k
