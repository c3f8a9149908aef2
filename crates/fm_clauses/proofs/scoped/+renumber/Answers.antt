use Rattle.std.proofs.Common.{List, ap, sym, ◌∙◌, arith}
use Rattle.fm_base.specs.declared.formula.Pterm
use Rattle.fm_base.specs.declared.formula.Pterm.{Pterm}
use Rattle.fm_clauses.specs.Listed.{below}
use Rattle.fm_clauses.specs.Narrow.{all_renamed, renamed}
use Rattle.fm_clauses.proofs.Terms.{renamed_app}
use Rattle.fm_nnf.specs.NormalSize.{term_nodes}
use Rattle.fm_clauses.proofs.Weights.{item-weight}
use Rattle.fm_clauses.proofs.scoped.+renumber.Goals as goal

pub renumbered_all-renumbered-requires : goal.renumbered_all-renumbered-requires
renumbered_all-renumbered-requires t c =
    let w = item-weight term_nodes c.args.terms.now c.loop-term.term-index c.term-item.result c.loop-term-test.true c.term-item.is in
    (omega (arith, c.decreases, w), c.requires)

pub renumbered-returns-in_ok-args-in-App : goal.renumbered-returns-in_ok-args-in-App
renumbered-returns-in_ok-args-in-App t c =
    let g = below c.args.used.now in
    ap (λ (us : List Pterm). Pterm.App c.in-App.symbol us) (c.in_ok-args-in-App.ensures ∙ ap (λ (ts : List Pterm). all_renamed ts g) c.as_slice.ensures) ∙ sym (renamed_app c.in-App.symbol c.in-App.terms g) ∙ ap (λ (t : Pterm). renamed t g) (sym c.in-App.is)
