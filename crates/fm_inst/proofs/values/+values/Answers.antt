use Rattle.std.proofs.Common.{◌≡◌, ap, sym, ◌∙◌, subst, map, List, ℕ}
use Rattle.std.specs.Prelude.{IfOk}
use Rattle.fm_base.specs.Interpretations.{reading_of}
use Rattle.fm_base.specs.declared.formula.Pterm.{Pterm}
use Rattle.fm_base.specs.Normal.{value}
use Rattle.fm_inst.proofs.Levels.{value_app}
use Rattle.fm_inst.proofs.values.+values.Goals as goal

pub term_value-returns-in-App-clause-value : goal.term_value-returns-in-App-clause-value
term_value-returns-in-App-clause-value t c =
    let m = reading_of c.args.interp.now in
    let env = c.args.env.now in
    let whole = ap (λ (x : Pterm). value x m env) c.in-App.is ∙ value_app m c.in-App.symbol c.in-App.terms env ∙ ap (λ (ts : List Pterm). m.at c.in-App.symbol.0 (map (λ (k : Pterm). value k m env) ts)) (sym c.as_slice.ensures) in
    subst (λ (n : ℕ). IfOk c.applied.result (λ x. x ≡ n)) (sym whole) c.applied.ensures.value
