use Rattle.std.proofs.Common.{◌≡◌, Some, ap, sym, subst, ◌∙◌}
use Rattle.fmf.specs.Asked.{IsApart, command_in, inquiry_in, request_in}
use Rattle.fmf.specs.Checked.{Verifies}
use Rattle.fmf.specs.Headline.{Claims, IsComplete}
use Rattle.fmf.specs.Words.{Inquiry, Request}
use Rattle.fmf.specs.declared.words.Command.{Command}
use Rattle.fmf.proofs.Completing.{completes}
use Rattle.fmf.proofs.Headlines.{asked_for, claims}
use Rattle.fmf.proofs.Verifying.{inquired, verifies}
use Rattle.fmf.proofs.command.run.Goals as goal

pub returns-in-Some-Solve-clause-claims : goal.returns-in-Some-Solve-clause-claims
returns-in-Some-Solve-clause-claims g c =
    let is = sym c.in-Some-Solve.ensures.asked ∙ ap (λ (k : Command). Some (command_in k)) c.in-Some-Solve.field-0-is in
    let apart = subst (λ (k : Command). IsApart k) c.in-Some-Solve.field-0-is c.in-Some-Solve.ensures.apart in
    let held = claims (request_in c.in-Some-Solve.asked) (g.F.Files.seen c.args.files.now) (g.F.Files.seen c.solve.new.files) c.solve.result apart c.solve.ensures.solved in
    asked_for (λ (r : Request). Claims r (g.F.Files.seen c.args.files.now) (g.F.Files.seen c.solve.new.files) c.solve.result) (request_in c.in-Some-Solve.asked) _ is held

pub returns-in-Some-Solve-clause-complete : goal.returns-in-Some-Solve-clause-complete
returns-in-Some-Solve-clause-complete g c =
    let is = sym c.in-Some-Solve.ensures.asked ∙ ap (λ (k : Command). Some (command_in k)) c.in-Some-Solve.field-0-is in
    let held : IsComplete (request_in c.in-Some-Solve.asked) (g.F.Files.seen c.args.files.now) (g.F.Files.seen c.solve.new.files) c.solve.result = λ sure. completes (request_in c.in-Some-Solve.asked) (g.F.Files.seen c.args.files.now) (g.F.Files.seen c.solve.new.files) c.solve.result sure c.solve.ensures.solved in
    asked_for (λ (r : Request). IsComplete r (g.F.Files.seen c.args.files.now) (g.F.Files.seen c.solve.new.files) c.solve.result) (request_in c.in-Some-Solve.asked) _ is held

pub returns-in-Some-Check-clause-verifies : goal.returns-in-Some-Check-clause-verifies
returns-in-Some-Check-clause-verifies g c =
    let is = sym c.in-Some-Check.ensures.asked ∙ ap (λ (k : Command). Some (command_in k)) c.in-Some-Check.field-0-is in
    let apart = subst (λ (k : Command). IsApart k) c.in-Some-Check.field-0-is c.in-Some-Check.ensures.apart in
    let held = verifies (inquiry_in c.in-Some-Check.asked) (g.F.Files.seen c.args.files.now) (g.F.Files.seen c.check.new.files) c.check.result apart c.check.ensures.checked in
    inquired (λ (q : Inquiry). Verifies q (g.F.Files.seen c.args.files.now) (g.F.Files.seen c.check.new.files) c.check.result) (inquiry_in c.in-Some-Check.asked) _ is held
