use Rattle.std.proofs.Common.{List, ap, sym, ℕ, ◌∙◌}
use Rattle.fm_base.specs.declared.signature.Ty.{Ty}
use Rattle.fm_arena.specs.Meanings.{terms_of}
use Rattle.fm_apply.specs.Applied.{first_wrong}
use Rattle.fm_apply.specs.Scoped.{terms_at}
use Rattle.fm_apply.proofs.Applying.{right_kinds, taken_by}
use Rattle.fm_apply.proofs.application.fits.Goals as goal

pub stand-requires-clause-kinds : goal.stand-requires-clause-kinds
stand-requires-clause-kinds c =
    let es = c.args.arena.now in
    let n = c.in-None.ensures
    ∙ ap (λ (tys : List Ty). first_wrong tys (terms_at es c.as_slice-2.result.now) c.args.items.now) c.as_slice.ensures
    ∙ ap (λ (is : List ℕ). first_wrong c.args.found.now.args (terms_at es is) c.args.items.now) c.as_slice-2.ensures in
    taken_by (terms_of es) c.args.found.now c.args.found.now.stands _ c.requires.right
    (right_kinds es c.args.found.now.args c.args.args c.args.items.now (sym c.len.ensures ∙ c.if-len.false ∙ c.len-2.ensures) c.requires.items (sym n))
