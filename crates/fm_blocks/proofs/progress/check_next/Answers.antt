use Rattle.std.proofs.Common.{ℕ, Option, ap, arith, subst, ◌∙◌}
use Rattle.std.specs.Prelude.{Err, IfNone, IfSome}
use Rattle.fm_cert.specs.Blockwise.{IsNext, IsWhole}
use Rattle.fm_cert.specs.declared.block.Block.{Block}
use Rattle.fm_cert.specs.declared.fail.CertText.{CertText}
use Rattle.fm_blocks.specs.Progress.{FoundIs, bad_step}
use Rattle.fm_problem.specs.Tabled.{with_table}
use Rattle.fm_blocks.specs.declared.verdict.Rule.{Rule}
use Rattle.fm_blocks.proofs.ProgressLaws.{all_good, lines_between, step_from, text_step}
use Rattle.fm_blocks.proofs.progress.check_next.Goals as goal

pub check_found-requires-clause-room : goal.check_found-requires-clause-room
check_found-requires-clause-room c =
    let next : IsNext c.args.reader.now c.in-Ok-Some.block c.next.new.self = subst (λ (o : Option Block). IfSome o (λ b. IsNext c.args.reader.now b c.next.new.self)) c.in-Ok-Some.field-0-is c.in-Ok-Some.ensures.block in
    let read = c.requires.reader in
    let lines = lines_between read.0 read.1 c.args.reader.now c.next.new.self c.in-Ok-Some.block read.2 (next read.0 read.1 read.2) in
    let here = c.line-at.ensures in
    let there = c.line-behind.ensures in
    omega (arith, lines, here, there)

pub returns-in-Err-Text : goal.returns-in-Err-Text
returns-in-Err-Text c = text_step (with_table c.args.sig.now c.args.assertions.now c.args.table.now) c.args.reader.now c.next.new.self c.args.number c.in-Err-Text.outside.line c.bad.result (c.bad.ensures ∙ ap (λ (t : CertText). bad_step t.line Rule.Text) c.in-Err-Text.outside-is) (c.next.ensures.fault c.in-Err-Text.outside (c.in-Err-Text.is ∙ ap (λ e. Err e) c.in-Err-Text.field-0-is))

pub returns-in-Ok-None : goal.returns-in-Ok-None
returns-in-Ok-None c =
    let whole : IsWhole c.args.reader.now = subst (λ (o : Option Block). IfNone o (IsWhole c.args.reader.now)) c.in-Ok-None.field-0-is c.in-Ok-None.ensures.whole in
    λ text ps bs w more. all_good text ps bs c.args.reader.now more w (whole text bs w.at)

pub returns-in_ok-step-in-Ok-Some : goal.returns-in_ok-step-in-Ok-Some
returns-in_ok-step-in-Ok-Some c =
    let p = with_table c.args.sig.now c.args.assertions.now c.args.table.now in
    let next : IsNext c.args.reader.now c.in-Ok-Some.block c.next.new.self = subst (λ (o : Option Block). IfSome o (λ b. IsNext c.args.reader.now b c.next.new.self)) c.in-Ok-Some.field-0-is c.in-Ok-Some.ensures.block in
    step_from p c.args.reader.now c.next.new.self c.args.number c.in-Ok-Some.block c.in_ok-step-in-Ok-Some.step next (subst (λ (n : ℕ). FoundIs p c.args.number n c.in-Ok-Some.block c.in_ok-step-in-Ok-Some.step) c.line-at.ensures c.in_ok-step-in-Ok-Some.ensures)
