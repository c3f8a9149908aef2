-- Truth of formulas in negation normal form, and bounds of the symbols and sorts in them.
use Rattle.std.specs.Prelude.{ℕ, Bool, true, ◌&&◌, nat_lt, List, map}
use Rattle.std.specs.List.{list_all}
use Rattle.fm_base.specs.Normal.{patom_true, signed}
use Rattle.fm_base.specs.Truth.{Truth, all_true, some_true, block}
use Rattle.fm_base.specs.declared.ids.SortId.{SortId}
use Rattle.fm_base.specs.declared.formula.Nnf.{Nnf}
use Rattle.fm_base.specs.declared.formula.Nnf.TheOpen.{Nnf-F}
use Rattle.fm_base.specs.declared.formula.Nnf.TheFolds.{fold-Nnf}
use Rattle.fm_base.specs.declared.formula.Patom.{Patom}
use Rattle.fm_base.specs.declared.formula.Pterm.{Pterm}
use Rattle.fm_base.specs.declared.formula.Pterm.TheOpen.{Pterm-F}
use Rattle.fm_base.specs.declared.formula.Pterm.TheFolds.{fold-Pterm}

abbrev pub nnf_step : Nnf-F Truth → Truth
nnf_step (Nnf-F.Lit positive a) m env = signed positive (patom_true m env a)
nnf_step (Nnf-F.And fs) m env = all_true fs m env
nnf_step (Nnf-F.Or fs) m env = some_true fs m env
nnf_step (Nnf-F.All vars body) m env = block m true vars (λ inner. body m inner) env

-- the truth of a normal form (Tarski), where env has a value for each variable in scope
abbrev pub nnf_true : Nnf → Truth
nnf_true = fold-Nnf Truth nnf_step

abbrev pub all_of : List Bool → Bool
all_of bs = list_all (λ (b : Bool). b) bs

abbrev pub term_below_step : ℕ → Pterm-F Bool → Bool
term_below_step bound (Pterm-F.Var v) = true
term_below_step bound (Pterm-F.App f ts) = nat_lt f.0 bound && all_of ts

-- all symbols of the term are below the bound
abbrev pub is_term_below : ℕ → Pterm → Bool
is_term_below bound = fold-Pterm Bool (term_below_step bound)

abbrev pub is_atom_below : ℕ → Patom → Bool
is_atom_below bound (Patom.Pred p ts) = nat_lt p.0 bound && all_of (map (is_term_below bound) ts)
is_atom_below bound (Patom.Equal a b) = is_term_below bound a && is_term_below bound b

abbrev pub within_step : ℕ → ℕ → Nnf-F Bool → Bool
within_step bound sorts (Nnf-F.Lit positive a) = is_atom_below bound a
within_step bound sorts (Nnf-F.And fs) = all_of fs
within_step bound sorts (Nnf-F.Or fs) = all_of fs
within_step bound sorts (Nnf-F.All vars body) = list_all (λ (s : SortId). nat_lt s.0 sorts) vars && body

-- all symbols are below the one bound, and all quantified sorts below the other
abbrev pub is_within : ℕ → ℕ → Nnf → Bool
is_within bound sorts = fold-Nnf Bool (within_step bound sorts)
