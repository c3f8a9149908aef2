use Rattle.std.proofs.Common.{◌≡◌, ◌+◌, List, [], ◌∷◌, ◌++◌, length, take, drop, get_or, Err, refl, sym, subst, ◌∙◌, inl, inr}
use Rattle.std.proofs.lemmas.Bool.{false≢true}
use Rattle.std.proofs.lemmas.List.{take_more}
use Rattle.fm_base.specs.declared.refusal.Refusal.{Refusal}
use Rattle.fm_sexp.specs.declared.items.Sexp.{Sexp}
use Rattle.fm_session.specs.Kept.{past_of}
use Rattle.fm_session.specs.Steps.{next_of, IsMade}
use Rattle.fm_files.specs.Seen.{Seen}
use Rattle.fmf.specs.Answers.{Script}
use Rattle.fmf.specs.Reached.{Reached, script_of}
use Rattle.fmf.specs.Solved.{Refused}
use Rattle.fmf.proofs.Reaching.{Reached-push, memory_now, done_now, refused_now, stopped_in}
use Rattle.fmf.proofs.Filings.{OnlyWrites-then}
use Rattle.fmf.proofs.Turning.{split_at, split_after, split_end, within_next, few_after, step_now}
use Rattle.fmf.proofs.answers.answer_items.Goals as goal

pub returns-in-Err-Refused-clause-wrote : goal.returns-in-Err-Refused-clause-wrote
returns-in-Err-Refused-clause-wrote g c = λ before begun.
    let script : Script = script_of c.args.session.now c.args.text.now c.args.items.now in
    let refusal = c.in-Err-Refused.refusal in
    let x = get_or c.args.items.now c.loop-item.item-index c.item-item.result in
    let fact = rw c.in-Err-Refused.field-0-is at c.in-Err-Refused.ensures in
    let next : next_of c.args.text.now (past_of c.loop-item.session) x ≡ Err refusal = subst (λ (y : Sexp). next_of c.args.text.now (past_of c.loop-item.session) y ≡ Err refusal) c.item-item.is fact.0 in
    let wrote = subst (λ (r : Refusal). Refused r (g.F.Files.seen c.loop-item.files) (g.F.Files.seen c.refuse.new.files) c.refuse.result) c.in-Err-Refused.refusal-is c.refuse.ensures.wrote in
    refused_now script c.args.cert.now (take c.loop-item.item-index c.args.items.now) (drop (c.loop-item.item-index + 1) c.args.items.now) x refusal (past_of c.loop-item.session) before (g.F.Files.seen c.loop-item.files) (g.F.Files.seen c.refuse.new.files) c.refuse.result c.requires.apart (split_at c.args.items.now c.loop-item.item-index c.item-item.result c.loop-item-test.true) (c.loop-item.invariant.reached before begun) c.loop-item.invariant.goes_on next wrote

pub returns-in-Err-Memory-clause-wrote : goal.returns-in-Err-Memory-clause-wrote
returns-in-Err-Memory-clause-wrote g c = λ before begun.
    let script : Script = script_of c.args.session.now c.args.text.now c.args.items.now in
    memory_now script c.args.cert.now (take c.loop-item.item-index c.args.items.now) (drop c.loop-item.item-index c.args.items.now) (past_of c.loop-item.session) before (g.F.Files.seen c.loop-item.files) (split_after c.args.items.now c.loop-item.item-index) (c.loop-item.invariant.reached before begun)

pub returns-in-Err-clause-wrote : goal.returns-in-Err-clause-wrote
returns-in-Err-clause-wrote g c = λ before begun.
    let script : Script = script_of c.args.session.now c.args.text.now c.args.items.now in
    let x = get_or c.args.items.now c.loop-item.item-index c.item-item.result in
    let made : IsMade c.args.text.now (past_of c.loop-item.session) x c.in-Ok.step (past_of c.step.new.self) = subst (λ (y : Sexp). IsMade c.args.text.now (past_of c.loop-item.session) y c.in-Ok.step (past_of c.step.new.self)) c.item-item.is c.in-Ok.ensures in
    let step = step_now c.args.text.now (past_of c.loop-item.session) (past_of c.step.new.self) x c.in-Ok.step c.as_slice-in-loop-item.result.now c.as_slice-in-loop-item.ensures.value made in
    stopped_in script c.args.cert.now (take c.loop-item.item-index c.args.items.now) (drop (c.loop-item.item-index + 1) c.args.items.now) x made.blocks c.as_slice.result.now c.as_slice-in-loop-item.result.now (past_of c.loop-item.session) (past_of c.step.new.self) before (g.F.Files.seen c.loop-item.files) (g.F.Files.seen c.put.new.files) (split_at c.args.items.now c.loop-item.item-index c.item-item.result c.loop-item-test.true) (c.loop-item.invariant.reached before begun) c.loop-item.invariant.goes_on step (c.as_slice.ensures.value ∙ made.spelled) c.in-Err.ensures.part (λ out file. absurd (false≢true (c.in-Err.ensures.never out file).0))

pub returns-then-step-clause-wrote : goal.returns-then-step-clause-wrote
returns-then-step-clause-wrote g c = λ before begun.
    let script : Script = script_of c.args.session.now c.args.text.now c.args.items.now in
    let i = c.loop-item.item-index in
    let x = get_or c.args.items.now i c.item-item.result in
    let made : IsMade c.args.text.now (past_of c.loop-item.session) x c.in-Ok.step (past_of c.step.new.self) = subst (λ (y : Sexp). IsMade c.args.text.now (past_of c.loop-item.session) y c.in-Ok.step (past_of c.step.new.self)) c.item-item.is c.in-Ok.ensures in
    let step = step_now c.args.text.now (past_of c.loop-item.session) (past_of c.step.new.self) x c.in-Ok.step c.as_slice-in-loop-item.result.now c.as_slice-in-loop-item.ensures.value made in
    let reached : Reached script c.args.cert.now (take i c.args.items.now ++ x ∷ []) (past_of c.step.new.self) before (g.F.Files.seen c.put.new.files) = Reached-push script c.args.cert.now (take i c.args.items.now) x made.blocks c.as_slice.result.now c.as_slice-in-loop-item.result.now (past_of c.loop-item.session) (past_of c.step.new.self) before (g.F.Files.seen c.loop-item.files) (g.F.Files.seen c.put.new.files) (c.loop-item.invariant.reached before begun) c.loop-item.invariant.goes_on step (c.as_slice.ensures.value ∙ made.spelled) c.in-Ok-put.ensures.done c.in-Ok-put.ensures.leaves (λ out file. (c.in-Ok-put.ensures.never out file).1) in
    done_now script c.args.cert.now (take (i + 1) c.args.items.now) (drop (i + 1) c.args.items.now) (past_of c.step.new.self) before (g.F.Files.seen c.put.new.files) (split_after c.args.items.now (i + 1)) (subst (λ (xs : List Sexp). Reached script c.args.cert.now xs (past_of c.step.new.self) before (g.F.Files.seen c.put.new.files)) (sym (take_more c.args.items.now i c.item-item.result c.loop-item-test.true)) reached) (inr (sym made.ended ∙ c.if-step.true))

pub loop-item-preserved : goal.loop-item-preserved
loop-item-preserved g c =
    let script : Script = script_of c.args.session.now c.args.text.now c.args.items.now in
    let i = c.loop-item.item-index in
    let x = get_or c.args.items.now i c.item-item.result in
    let made : IsMade c.args.text.now (past_of c.loop-item.session) x c.in-Ok.step (past_of c.step.new.self) = subst (λ (y : Sexp). IsMade c.args.text.now (past_of c.loop-item.session) y c.in-Ok.step (past_of c.step.new.self)) c.item-item.is c.in-Ok.ensures in
    let step = step_now c.args.text.now (past_of c.loop-item.session) (past_of c.step.new.self) x c.in-Ok.step c.as_slice-in-loop-item.result.now c.as_slice-in-loop-item.ensures.value made in
    let reached : (before : Seen) → Reached script c.args.cert.now [] (past_of c.args.session.now) before (g.F.Files.seen c.args.files.now) → Reached script c.args.cert.now (take i c.args.items.now ++ x ∷ []) (past_of c.step.new.self) before (g.F.Files.seen c.put.new.files) = λ before begun. Reached-push script c.args.cert.now (take i c.args.items.now) x made.blocks c.as_slice.result.now c.as_slice-in-loop-item.result.now (past_of c.loop-item.session) (past_of c.step.new.self) before (g.F.Files.seen c.loop-item.files) (g.F.Files.seen c.put.new.files) (c.loop-item.invariant.reached before begun) c.loop-item.invariant.goes_on step (c.as_slice.ensures.value ∙ made.spelled) c.in-Ok-put.ensures.done c.in-Ok-put.ensures.leaves (λ out file. (c.in-Ok-put.ensures.never out file).1) in
    record {
      reached = λ before begun. subst (λ (xs : List Sexp). Reached script c.args.cert.now xs (past_of c.step.new.self) before (g.F.Files.seen c.put.new.files)) (sym (take_more c.args.items.now i c.item-item.result c.loop-item-test.true)) (reached before begun);
      goes_on = sym made.ended ∙ c.if-step.false;
      few = few_after c.args.text.now (past_of c.loop-item.session) (past_of c.step.new.self) x made.blocks c.as_slice-in-loop-item.result.now i step c.loop-item.invariant.few;
      leaves = OnlyWrites-then (g.F.Files.seen c.args.files.now) (g.F.Files.seen c.loop-item.files) (g.F.Files.seen c.put.new.files) c.loop-item.invariant.leaves c.in-Ok-put.ensures.leaves;
      within = within_next (length c.args.text.now) c.args.items.now i c.item-item.result c.loop-item-test.true c.loop-item.invariant.within;
    }

pub returns-clause-wrote : goal.returns-clause-wrote
returns-clause-wrote g c = λ before begun.
    let script : Script = script_of c.args.session.now c.args.text.now c.args.items.now in
    done_now script c.args.cert.now (take c.loop-item.item-index c.args.items.now) [] (past_of c.loop-item.session) before (g.F.Files.seen c.loop-item.files) (split_end c.args.items.now c.loop-item.item-index c.loop-item-test.false) (c.loop-item.invariant.reached before begun) (inl refl)
