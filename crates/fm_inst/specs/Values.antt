-- Values of terms in tables, in the words of the evaluation.
use Rattle.std.specs.Prelude.{ℕ, List, map}
use Rattle.fm_base.specs.Interpretations.{reading_of}
use Rattle.fm_base.specs.Normal.{value}
use Rattle.fm_base.specs.declared.formula.Pterm.{Pterm}
use Rattle.fm_base.specs.declared.ids.SymId.{SymId}
use Rattle.fm_base.specs.declared.interp.Interp.{Interp}

abbrev pub values_in : Interp → List ℕ → List Pterm → List ℕ
values_in i env terms = map (λ (t : Pterm). value t (reading_of i) env) terms

-- what a symbol gives the values of some terms
abbrev pub applied_in : Interp → List ℕ → SymId → List Pterm → ℕ
applied_in i env symbol terms = (reading_of i).at symbol.0 (values_in i env terms)
