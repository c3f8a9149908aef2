use Rattle.std.proofs.Common.{◌-◌, arith}
use Rattle.fm_arena.proofs.Framing.{block_names, block_room}
use Rattle.fm_arena.proofs.frames.enter_block.Goals as goal

pub returns-clause-names : goal.returns-clause-names
returns-clause-names c =
    block_names c.args.frames.now.items c.push.new.self.items (c.len.result - c.args.frame) c.args.frame c.len-2.result c.args.base c.args.depth c.in_ok-push.ensures.items (omega arith) c.requires (omega arith)

pub returns-clause-room : goal.returns-clause-room
returns-clause-room c =
    block_room c.args.frames.now.items c.push.new.self.items (c.len.result - c.args.frame) c.args.frame c.len-2.result c.args.base c.args.depth c.in_ok-push.ensures.items (omega arith) c.requires (omega arith)
