use Rattle.std.proofs.Common.{ap, ◌∙◌, Bool}
use Rattle.fm_elab.specs.Held.{state_of}
use Rattle.fm_script.specs.Shown.{shown}
use Rattle.fm_session.specs.Effects.{effect, effect_where}
use Rattle.fm_session.specs.Kept.{Kept, kept_in, past_of}
use Rattle.fm_session.proofs.Stepping.{step_made}
use Rattle.fm_session.proofs.session.Session.carry_out.Goals as goal

pub returns : goal.returns
returns c =
    let inside : Kept = kept_in c.self.inside.budget c.self.inside.scopes c.self.inside.success c.self.inside.standing c.self.inside.checks c.self.inside.ended in
    let begun = c.has_begun.ensures ∙ ap (λ (k : Kept). (state_of k.scopes).begun) c.self.view_is in
    let asks = c.act_of-act.ensures ∙ ap (λ (b : Bool). effect_where c.args.text.now b (shown c.in_ok-command.command)) begun in
    step_made c.args.text.now (past_of c.args.self.now) (past_of inside) (past_of c.note.new.self) c.args.item.now (shown c.in_ok-command.command) (effect c.act_of-act.result) (state_of c.apply.new.self) c.in_ok-answer.answer c.self-2.inside.ended c.in_ok-command.ensures.answer asks c.in_ok-answer.ensures (ap past_of c.self.view_is) c.in_ok-apply.ensures c.note.ensures (ap (λ (k : Kept). k.ended) c.self-2.view_is)
