use Rattle.std.proofs.Common.{ℕ, Option, ap, subst, ◌∙◌}
use Rattle.std.specs.Prelude.{Err, IfNone, IfSome}
use Rattle.fm_cert.specs.Blockwise.{IsNext, IsWhole}
use Rattle.fm_cert.specs.declared.block.Block.{Block}
use Rattle.fm_blocks.specs.Faults.{fault_at}
use Rattle.fm_blocks.specs.declared.verdict.Rule.{Rule}
use Rattle.fm_blocks.proofs.ProgressLaws.{all_good, left_over, text_fault}
use Rattle.fm_blocks.proofs.progress.check_end.Goals as goal

pub returns-in-Err-Text-clause-bad : goal.returns-in-Err-Text-clause-bad
returns-in-Err-Text-clause-bad c = λ text ps bs cert w. text_fault text ps bs c.args.reader.now c.in-Err-Text.outside.line (c.next.ensures.fault c.in-Err-Text.outside (c.in-Err-Text.is ∙ ap (λ e. Err e) c.in-Err-Text.field-0-is)) w.at

pub returns-in-Ok-None-clause-good : goal.returns-in-Ok-None-clause-good
returns-in-Ok-None-clause-good c =
    let whole : IsWhole c.args.reader.now = subst (λ (o : Option Block). IfNone o (IsWhole c.args.reader.now)) c.in-Ok-None.field-0-is c.in-Ok-None.ensures.whole in
    λ text ps bs w more. all_good text ps bs c.args.reader.now more w (whole text bs w.at)

pub returns-clause-bad : goal.returns-clause-bad
returns-clause-bad c =
    let next : IsNext c.args.reader.now c.in-Ok-Some.field-0-0 c.next.new.self = subst (λ (o : Option Block). IfSome o (λ b. IsNext c.args.reader.now b c.next.new.self)) c.in-Ok-Some.field-0-is c.in-Ok-Some.ensures.block in
    λ text ps bs cert w. left_over text ps bs c.args.reader.now c.next.new.self c.in-Ok-Some.field-0-0 _ cert w (next text bs w.at) (ap (λ (n : ℕ). fault_at n Rule.B) c.line-line.ensures)
