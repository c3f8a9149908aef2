use Rattle.std.proofs.Common.{arith, ◌+◌}
use Rattle.fm_apply.proofs.Naming.{count_inner}
use Rattle.fm_apply.proofs.scope.+count.Goals as goal

pub returns-in-Ok : goal.returns-in-Ok
returns-in-Ok t c =
    count_inner c.args.frame.now c.in-Inner.outer c.in-Inner.places c.in-Inner.names c.in-Inner.numbers (c.in-Ok.before + c.min.result) c.in-Ok.before c.sum.result c.in-Inner.is c.in-Ok.ensures
    (omega (arith, c.min.ensures, c.len.ensures, c.len-in-Ok.ensures)) c.sum.ensures
