use Rattle.std.proofs.Common.{sym, subst}
use Rattle.std.specs.Prelude.{IfSome}
use Rattle.fm_cert.specs.Blockwise.{IsAt, IsNext}
use Rattle.fm_cert.proofs.blocks.read_one.Goals as goal

pub returns-in_ok-keep-in-Some-clause-block : goal.returns-in_ok-keep-in-Some-clause-block
returns-in_ok-keep-in-Some-clause-block c = λ text is.
    let found : IsNext c.args.reader.now c.in-Some.block c.next.new.self = subst (λ o. IfSome o (λ b. IsNext c.args.reader.now b c.next.new.self)) c.in-Some.is c.in-Ok.ensures.block in
    subst (λ bs. IsAt text bs c.next.new.self) (sym c.in_ok-keep-in-Some.ensures) (found text c.args.blocks.now.items is)
