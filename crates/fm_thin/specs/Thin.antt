-- Thin assertions: each is a truth value or an equation of two constants of one sort, over a signature whose ranks name its
-- sorts.
use Rattle.std.specs.Prelude.{ℕ, ◌+◌, Bool, true, false, ◌&&◌, cond, List, [], ◌∷◌, slice_get, Option, Some, None}
use Rattle.std.specs.List.{list_all}
use Rattle.std.specs.Option.{option_map}
use Rattle.fm_base.specs.Interpretations.{is_nil, names_its_sorts}
use Rattle.fm_base.specs.Truth.{have_one_sort, result_of}
use Rattle.fm_base.specs.declared.formula.Formula.{Formula}
use Rattle.fm_base.specs.declared.formula.Fterm.{Fterm}
use Rattle.fm_base.specs.declared.formula.Formula.TheFolds.{fold-Formula, fold-Fterm}
use Rattle.fm_base.specs.declared.formula.Formula.TheOpen.{Formula-F, Fterm-F}
use Rattle.fm_base.specs.declared.ids.SortId.{SortId}
use Rattle.fm_base.specs.declared.signature.Sig.{Sig}
use Rattle.fm_thin.specs.declared.thin.Kind.{Kind}

abbrev pub ConstantSort : Type 0
ConstantSort = Sig → Option SortId

-- the sort of a constant; no other term has one here
abbrev pub constant_step : Fterm-F (Sig → Kind) ConstantSort → ConstantSort
constant_step (Fterm-F.Var v) sig = None
constant_step (Fterm-F.App f ts) sig = cond (is_nil ts) (result_of [] (slice_get sig.ranks f.0) sig []) None
constant_step (Fterm-F.«Fterm::Ite» c a b) sig = None

abbrev pub truth_kind : Bool → Kind
truth_kind true = Kind.Always
truth_kind false = Kind.Never

abbrev pub kind_step : Formula-F (Sig → Kind) ConstantSort → Sig → Kind
kind_step (Formula-F.Truth b) sig = truth_kind b
kind_step (Formula-F.Equal a b) sig = cond (have_one_sort (a sig) (b sig)) Kind.Equation Kind.Other
kind_step (Formula-F.Pred p ts) sig = Kind.Other
kind_step (Formula-F.Not a) sig = Kind.Other
kind_step (Formula-F.And fs) sig = Kind.Other
kind_step (Formula-F.Or fs) sig = Kind.Other
kind_step (Formula-F.Iff a b) sig = Kind.Other
kind_step (Formula-F.«Formula::Ite» c a b) sig = Kind.Other
kind_step (Formula-F.Quant all vars body) sig = Kind.Other

abbrev pub kind_of : Formula → Sig → Kind
kind_of = fold-Formula (Sig → Kind) ConstantSort kind_step constant_step

abbrev pub constant_sort : Fterm → ConstantSort
constant_sort = fold-Fterm (Sig → Kind) ConstantSort kind_step constant_step

abbrev pub is_answered : Kind → Bool
is_answered Kind.Always = true
is_answered Kind.Never = true
is_answered Kind.Equation = true
is_answered Kind.Other = false

abbrev pub is_thin : Sig → Formula → Bool
is_thin sig f = is_answered (kind_of f sig)

abbrev pub are_thin : Sig → List Formula → Bool
are_thin sig fs = names_its_sorts sig && list_all (is_thin sig) fs

abbrev pub is_never : Kind → Bool
is_never Kind.Never = true
is_never Kind.Always = false
is_never Kind.Equation = false
is_never Kind.Other = false

-- an equation makes one clause, `true` makes none
abbrev pub clauses_in : Kind → ℕ
clauses_in Kind.Equation = 1
clauses_in Kind.Always = 0
clauses_in Kind.Never = 0
clauses_in Kind.Other = 0

abbrev pub falsity_behind : Kind → Option ℕ → Option ℕ
falsity_behind k rest = cond (is_never k) (Some 0) (option_map (λ n. clauses_in k + n) rest)

-- the number of the clause of the first `false`
abbrev pub falsity_in : Sig → List Formula → Option ℕ
falsity_in sig [] = None
falsity_in sig (f ∷ fs) = falsity_behind (kind_of f sig) (falsity_in sig fs)
