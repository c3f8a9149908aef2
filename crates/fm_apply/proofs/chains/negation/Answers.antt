use Rattle.std.proofs.Common.{[], refl}
use Rattle.fm_base.specs.declared.signature.Ty.{Ty}
use Rattle.fm_arena.specs.Meanings.{made}
use Rattle.fm_arena.specs.declared.node.Op.{Op}
use Rattle.fm_apply.specs.Applied.{meanings}
use Rattle.fm_apply.specs.Scoped.{context_in, terms_at}
use Rattle.fm_apply.proofs.Adding.{kind_by}
use Rattle.fm_apply.proofs.chains.negation.Goals as goal

pub returns-clause-kind : goal.returns-clause-kind
returns-clause-kind c =
    kind_by c.make.new.arena c.make.result c.args.scope.now.command (record { ty = Ty.Bool; meaning = made Op.Not (meanings (terms_at c.args.arena.now c.in_ok-parts.parts)) }) refl
    (c.make.ensures.answer (context_in c.args.scope.now [] 0 []) refl)
