use Rattle.std.proofs.Common.{ap}
use Rattle.fm_base.specs.declared.signature.Ty.{Ty}
use Rattle.fm_arena.specs.Meanings.{definition_made}
use Rattle.fm_apply.proofs.Growing.{grows_added}
use Rattle.fm_elab.proofs.Defining.{defined_by, nothing_by, the_function}
use Rattle.fm_elab.proofs.given.define.Goals as goal

pub returns-in_err-insert-clause-in_force : goal.returns-in_err-insert-clause-in_force
returns-in_err-insert-clause-in_force c =
    (nothing_by c.args.first c.args.arena.now c.define.new.self c.args.functions.now c.insert.new.self (grows_added c.args.arena.now c.define.new.self (definition_made c.args.body) c.in_ok-number.ensures.added) c.requires.in_force c.in_err-insert.ensures.err).0

pub returns-clause-added : goal.returns-clause-added
returns-clause-added c =
    (defined_by c.args.first c.args.arena.now c.define.new.self c.args.functions.now c.insert.new.self c.args.name.now c.args.args c.args.body c.in_ok-number.number (the_function c.args.args c.ty-result.result c.in_ok-number.number) c.in_ok-insert.field-0
    c.in_ok-number.ensures.added c.in_ok-number.ensures.number (ap (λ (ty : Ty). the_function c.args.args ty c.in_ok-number.number) c.ty-result.ensures) c.requires.in_force c.in_ok-insert.ensures.free c.in_ok-insert.ensures.taken c.in_ok-insert.ensures.added).0

pub returns-clause-in_force : goal.returns-clause-in_force
returns-clause-in_force c =
    (defined_by c.args.first c.args.arena.now c.define.new.self c.args.functions.now c.insert.new.self c.args.name.now c.args.args c.args.body c.in_ok-number.number (the_function c.args.args c.ty-result.result c.in_ok-number.number) c.in_ok-insert.field-0
    c.in_ok-number.ensures.added c.in_ok-number.ensures.number (ap (λ (ty : Ty). the_function c.args.args ty c.in_ok-number.number) c.ty-result.ensures) c.requires.in_force c.in_ok-insert.ensures.free c.in_ok-insert.ensures.taken c.in_ok-insert.ensures.added).1

pub returns-clause-extends : goal.returns-clause-extends
returns-clause-extends c =
    (defined_by c.args.first c.args.arena.now c.define.new.self c.args.functions.now c.insert.new.self c.args.name.now c.args.args c.args.body c.in_ok-number.number (the_function c.args.args c.ty-result.result c.in_ok-number.number) c.in_ok-insert.field-0
    c.in_ok-number.ensures.added c.in_ok-number.ensures.number (ap (λ (ty : Ty). the_function c.args.args ty c.in_ok-number.number) c.ty-result.ensures) c.requires.in_force c.in_ok-insert.ensures.free c.in_ok-insert.ensures.taken c.in_ok-insert.ensures.added).2
