use Rattle.std.proofs.Common.{◌≡◌, ap, subst, sym, ◌∙◌}
use Rattle.fm_session.specs.Kept.{past_of}
use Rattle.fm_session.specs.Replies.{Past, start}
use Rattle.fm_session.specs.declared.budget.Budget.{Budget}
use Rattle.fmf.specs.Answers.{Script}
use Rattle.fmf.specs.Reached.{script_of}
use Rattle.fmf.specs.Solved.{Answered}
use Rattle.fmf.proofs.Filings.{OnlyWrites-then}
use Rattle.fmf.proofs.Reaching.{Reached-none}
use Rattle.fmf.proofs.answers.answer_all.Goals as goal

pub returns-clause-wrote : goal.returns-clause-wrote
returns-clause-wrote g c =
    let session = c.new-session.result in
    let script : Script = script_of session c.args.text.now c.args.items.now in
    let same : session.budget ≡ c.args.budget = ap (λ (p : Past). p.budget) c.new-session.ensures in
    let begun : past_of session ≡ start session.budget = c.new-session.ensures ∙ ap start (sym same) in
    let old = g.F.Files.seen c.args.files.now in
    let reached = Reached-none script c.args.cert.now (past_of session) old (g.F.Files.seen c.open.new.files) begun c.in-Ok.ensures.done c.in-Ok.ensures.leaves (λ n room fits. (c.in-Ok.ensures.never n room fits).1) in
    subst (λ (b : Budget). Answered (record { budget = b; text = c.args.text.now; items = c.args.items.now }) c.args.cert.now old (g.F.Files.seen c.answer_items.new.files) c.answer_items.result) same
    (c.answer_items.ensures.wrote old reached)

pub returns-clause-leaves : goal.returns-clause-leaves
returns-clause-leaves g c = OnlyWrites-then (g.F.Files.seen c.args.files.now) (g.F.Files.seen c.open.new.files) (g.F.Files.seen c.answer_items.new.files) c.in-Ok.ensures.leaves c.answer_items.ensures.leaves
