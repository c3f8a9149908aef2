use Rattle.std.proofs.Common.{◌≡◌, ◌+◌, Option, Some, None, sym, ap, ◌∙◌, arith}
use Rattle.std.specs.Prelude.{drop}
use Rattle.std.specs.Option.{option_map}
use Rattle.fm_base.specs.declared.ids.TermId.{TermId}
use Rattle.fm_bank.specs.GroundTerms.{ground_grown, terms_ground_grown}
use Rattle.fm_bank.specs.Terms.{numbers}
use Rattle.fm_bank.proofs.Growing.{front-refl, front-trans}
use Rattle.fm_bank.proofs.GroundGrowing.{applied_front}
use Rattle.fm_bank.proofs.GroundSteps.{between_ground, ground_applied_stopped, ground_behind, ground_left_out, ground_stopped, joined}
use Rattle.fm_bank.proofs.Steps.{between_more, on_err}
use Rattle.fm_bank.proofs.parts.+parts.Goals.{put_all-in-None, put_all-in-Some+in_ok-push-in-Some}
use Rattle.fm_bank.proofs.parts.+parts.Goals as goal

pub put_all-returns-in_err-put_term-clause-err : goal.put_all-returns-in_err-put_term-clause-err
put_all-returns-in_err-put_term-clause-err t c =
    on_err c.from_residual.result (ground_stopped c.args.args.now c.loop-arg.arg-index c.arg-item.result c.args.terms.now.keys c.loop-arg.terms.keys c.put_term.new.terms.keys _ c.loop-arg.ground (numbers c.loop-arg.ids.items) (omega (arith, c.loop-arg-test.true)) c.arg-item.is c.loop-arg.invariant.behind c.loop-arg.invariant.front c.in_err-put_term.ensures.err)

pub put_all-returns-in_err-push-in-Some-clause-err : goal.put_all-returns-in_err-push-in-Some-clause-err
put_all-returns-in_err-push-in-Some-clause-err t c =
    let here : ground_grown c.arg-item.result c.loop-arg.terms.keys ≡ (c.put_term.new.terms.keys, Some c.in-Some.id.0) = c.in_ok-put_term.ensures.ok ∙ ap (λ (o : Option TermId). (c.put_term.new.terms.keys, option_map (λ t. t.0) o)) c.in-Some.is in
    on_err c.from_residual-in_err-push-in-Some.result (ground_stopped c.args.args.now c.loop-arg.arg-index c.arg-item.result c.args.terms.now.keys c.loop-arg.terms.keys c.put_term.new.terms.keys _ c.loop-arg.ground (numbers c.loop-arg.ids.items) (omega (arith, c.loop-arg-test.true)) c.arg-item.is c.loop-arg.invariant.behind c.loop-arg.invariant.front (between_ground c.arg-item.result c.loop-arg.terms.keys c.put_term.new.terms.keys (Some c.in-Some.id.0) here))

pub put_all-loop-arg-preserved : goal.put_all-loop-arg-preserved
put_all-loop-arg-preserved t c =
    let new = c.put_term.new.terms.keys in
    let rest = terms_ground_grown (drop (c.loop-arg.arg-index + 1) c.args.args.now) new in
    record {
      behind =
          elim c.match-branch-2.branch [
            | put_all-in-None w ↦
                let here : ground_grown c.arg-item.result c.loop-arg.terms.keys ≡ (new, None) = c.in_ok-put_term.ensures.ok ∙ ap (λ (o : Option TermId). (new, option_map (λ t. t.0) o)) w.in-None.is in
                ground_left_out c.args.args.now c.loop-arg.arg-index c.arg-item.result c.loop-arg.terms.keys new _ c.loop-arg.ground (numbers c.loop-arg.ids.items) (omega (arith, c.loop-arg-test.true)) c.arg-item.is c.loop-arg.invariant.behind here ∙ λ i. (rest.0, joined (sym w.ground-is i) (numbers (sym w.ids-is i).items) rest.1)
            | put_all-in-Some+in_ok-push-in-Some w ↦
                let here : ground_grown c.arg-item.result c.loop-arg.terms.keys ≡ (new, Some w.in-Some.id.0) = c.in_ok-put_term.ensures.ok ∙ ap (λ (o : Option TermId). (new, option_map (λ t. t.0) o)) w.in-Some.is in
                ground_behind c.args.args.now c.loop-arg.arg-index c.arg-item.result c.loop-arg.terms.keys new _ c.loop-arg.ground c.loop-arg.ids.items w.push.new.self.items w.in-Some.id (omega (arith, c.loop-arg-test.true)) c.arg-item.is c.loop-arg.invariant.behind here w.in_ok-push-in-Some.ensures.ok ∙ λ i. (rest.0, joined (sym w.ground-is i) (numbers (sym w.ids-is i).items) rest.1)
          ];
      front = front-trans c.args.terms.now.keys c.loop-arg.terms.keys new c.loop-arg.invariant.front (between_ground c.arg-item.result c.loop-arg.terms.keys new _ c.in_ok-put_term.ensures.ok).0;
    }

pub put_application-returns-in_err-put_all-clause-err : goal.put_application-returns-in_err-put_all-clause-err
put_application-returns-in_err-put_all-clause-err t c =
    let old = c.args.terms.now.keys in
    let args = terms_ground_grown c.args.args.now old in
    on_err c.from_residual.result (between_more old old c.put_all.new.terms.keys args.0 _ (front-refl old) c.in_err-put_all.ensures.err (applied_front c.args.symbol.0 args.0 args.1))

pub put_application-returns-in_err-term-in-Some-clause-err : goal.put_application-returns-in_err-term-in-Some-clause-err
put_application-returns-in_err-term-in-Some-clause-err t c =
    on_err c.from_residual-in_err-term-in-Some.result (ground_applied_stopped c.args.symbol.0 c.args.args.now c.args.terms.now.keys c.put_all.new.terms.keys c.put.new.terms.keys _ c.in_ok-put_all.ensures.ok c.in_err-term-in-Some.ensures.err)
