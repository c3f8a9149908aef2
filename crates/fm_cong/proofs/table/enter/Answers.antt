use Rattle.std.proofs.Common.{◌≡◌, ◌+◌, ◌++◌, ◌∷◌, [], ℕ, List, ap, sym, subst, ◌∙◌}
use Rattle.fm_bank.specs.Closure.{object}
use Rattle.fm_cong.specs.Tables.{IsEntering, moved}
use Rattle.fm_cong.proofs.Entering.{entered_new, sound_new, sound_found}
use Rattle.fm_cong.proofs.table.enter.Goals as goal

pub returns-in-None-clause-entered : goal.returns-in-None-clause-entered
returns-in-None-clause-entered c = entered_new (moved c.args.from c.args.to c.args.class.now.cells.items) c.args.table.now.entries c.put.new.table.entries c.args.waiting.now.items c.args.member.now c.in_ok-put.field-0 c.in_ok-key.key (c.number-node.result + 2) c.in_ok-key.ensures (ap (λ n. n + 2) c.number-node.ensures) c.in_ok-put.ensures.found c.in_ok-put.ensures.entries c.in-None.is

pub returns-in-None-clause-sound : goal.returns-in-None-clause-sound
returns-in-None-clause-sound c = λ shapes there. sound_new (moved c.args.from c.args.to c.args.class.now.cells.items) c.args.table.now.entries c.put.new.table.entries c.args.waiting.now.items c.args.member.now c.in_ok-put.field-0 c.in_ok-key.key (c.number-node.result + 2) c.in_ok-key.ensures (ap (λ n. n + 2) c.number-node.ensures) c.in_ok-put.ensures.found c.in_ok-put.ensures.entries shapes there c.in-None.is

pub returns-in_ok-push-in-Some-clause-sound : goal.returns-in_ok-push-in-Some-clause-sound
returns-in_ok-push-in-Some-clause-sound c =
    let node : c.number-node.result + 2 ≡ object c.args.member.now.number = ap (λ n. n + 2) c.number-node.ensures in
    let pushed : c.push.new.self.items ≡ c.args.waiting.now.items ++ (c.in-Some.other, object c.args.member.now.number) ∷ [] = c.in_ok-push-in-Some.ensures.items ∙ (λ i. c.args.waiting.now.items ++ (c.in-Some.other, node i) ∷ []) in
    λ shapes there h. subst (λ (ws : List (ℕ × ℕ)). IsEntering shapes (moved c.args.from c.args.to c.args.class.now.cells.items) c.put.new.table.entries ws) (sym pushed) (sound_found (moved c.args.from c.args.to c.args.class.now.cells.items) c.args.table.now.entries c.put.new.table.entries c.args.waiting.now.items c.args.member.now c.in_ok-put.field-0 c.in_ok-key.key (c.number-node.result + 2) c.in_ok-key.ensures (ap (λ n. n + 2) c.number-node.ensures) c.in_ok-put.ensures.found c.in_ok-put.ensures.entries shapes there c.in-Some.other c.in-Some.is h)
