use Rattle.std.proofs.Common.{List, ap, refl, sym, ℕ, ◌∙◌}
use Rattle.std.specs.Prelude.{None}
use Rattle.fm_apply.specs.Applied.{first_wrong, made_at}
use Rattle.fm_apply.specs.Scoped.{number_term, terms_at}
use Rattle.fm_apply.proofs.Adding.{shown_by}
use Rattle.fm_apply.proofs.Applying.{kinds_taken, tested_right}
use Rattle.fm_apply.proofs.application.apply.Goals as goal

pub make-requires-clause-kinds : goal.make-requires-clause-kinds
make-requires-clause-kinds c =
    let n = c.in-None.ensures ∙ ap (λ (is : List ℕ). first_wrong c.args.types.now (terms_at c.args.arena.now is) c.args.items.now) c.as_slice.ensures in
    kinds_taken c.args.arena.now c.args.op c.args.types.now c.args.args c.args.items.now None (sym c.len.ensures ∙ c.if-len-types.false) c.requires.items refl n c.requires.kinds

pub returns-in-None-clause-answer : goal.returns-in-None-clause-answer
returns-in-None-clause-answer c =
    let n = c.in-None.ensures ∙ ap (λ (is : List ℕ). first_wrong c.args.types.now (terms_at c.args.arena.now is) c.args.items.now) c.as_slice.ensures in
    λ x e. shown_by (number_term c.make.new.arena) c.make.result _ _
    (tested_right c.args.arena.now c.args.types.now c.args.args c.args.items.now (made_at x c.args.op c.args.ty (terms_at c.args.arena.now c.args.args)) _ (sym c.len.ensures ∙ c.if-len-types.false) n)
    (c.make.ensures.answer x e)
