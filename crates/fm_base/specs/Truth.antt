-- Tarski truth of formulas and values of terms in an interpretation, by cases on the constructor. `env` has
-- the values of the variables in scope, the outermost first.
use Rattle.std.specs.Prelude.{◌≡◌, ℕ, suc, zero, ◌==◌, Bool, true, false, ◌&&◌, ◌||◌, not, nat_lt, List, [], ◌∷◌, ◌++◌, length, map, slice_get, slice_index, Option, Some, None, cond, option_map}
use Rattle.std.specs.List.{list_all}
use mathlib.Core.Bool.{beq}
use Rattle.fm_base.specs.Interpretations.{Reading}
use Rattle.fm_base.specs.declared.ids.SortId.{SortId}
use Rattle.fm_base.specs.declared.signature.Ty.{Ty}
use Rattle.fm_base.specs.declared.signature.Rank.{Rank}
use Rattle.fm_base.specs.declared.signature.Sig.{Sig}
use Rattle.fm_base.specs.declared.formula.Formula.{Formula}
use Rattle.fm_base.specs.declared.formula.Fterm.{Fterm}
use Rattle.fm_base.specs.declared.formula.Formula.TheOpen.{Formula-F, Fterm-F}
use Rattle.fm_base.specs.declared.formula.Formula.TheFolds.{fold-Formula, fold-Fterm}

-- p holds of every number below n
unfoldable pub all_below : ℕ → (ℕ → Bool) → Bool
all_below zero p = true
all_below (suc n) p = all_below n p && p n

-- p holds of some number below n
unfoldable pub any_below : ℕ → (ℕ → Bool) → Bool
any_below zero p = false
any_below (suc n) p = any_below n p || p n

-- p holds of every element of a sort of n elements, or of some
abbrev pub quantified : Bool → ℕ → (ℕ → Bool) → Bool
quantified true n p = all_below n p
quantified false n p = any_below n p

-- a block of variables of the sorts, bound in order, the first outermost
abbrev pub block : Reading → Bool → List SortId → (List ℕ → Bool) → List ℕ → Bool
block m all [] body env = body env
block m all (s ∷ ss) body env = quantified all (m.size s.0) (λ x. block m all ss body (env ++ x ∷ []))

abbrev pub Truth : Type 0
Truth = Reading → List ℕ → Bool

abbrev pub Value : Type 0
Value = Reading → List ℕ → ℕ

abbrev pub values : List Value → Reading → List ℕ → List ℕ
values ts m env = map (λ (t : Value). t m env) ts

abbrev pub all_true : List Truth → Truth
all_true [] m env = true
all_true (f ∷ fs) m env = f m env && all_true fs m env

abbrev pub some_true : List Truth → Truth
some_true [] m env = false
some_true (f ∷ fs) m env = f m env || some_true fs m env

abbrev pub truth_step : Formula-F Truth Value → Truth
truth_step (Formula-F.Truth b) m env = b
truth_step (Formula-F.Pred p ts) m env = m.at p.0 (values ts m env) == 1
truth_step (Formula-F.Equal a b) m env = a m env == b m env
truth_step (Formula-F.Not a) m env = not (a m env)
truth_step (Formula-F.And fs) m env = all_true fs m env
truth_step (Formula-F.Or fs) m env = some_true fs m env
truth_step (Formula-F.Iff a b) m env = beq (a m env) (b m env)
truth_step (Formula-F.«Formula::Ite» c a b) m env = cond (c m env) (a m env) (b m env)
truth_step (Formula-F.Quant all vars body) m env = block m all vars (λ inner. body m inner) env

abbrev pub value_step : Fterm-F Truth Value → Value
value_step (Fterm-F.Var v) m env = slice_index env v
value_step (Fterm-F.App f ts) m env = m.at f.0 (values ts m env)
value_step (Fterm-F.«Fterm::Ite» c a b) m env = cond (c m env) (a m env) (b m env)

-- the truth of a formula, where env has a value for each variable in scope
abbrev pub truth : Formula → Truth
truth = fold-Formula Truth Value truth_step value_step

-- the value of a term
abbrev pub value : Fterm → Value
value = fold-Fterm Truth Value truth_step value_step

-- What is well sorted over a signature, with the sorts of the variables in scope, the outermost first.

abbrev pub Sorted : Type 0
Sorted = Sig → List SortId → Bool

abbrev pub Sort : Type 0
Sort = Sig → List SortId → Option SortId

abbrev pub is_bool : Ty → Bool
is_bool Ty.Bool = true
is_bool (Ty.Of s) = false

abbrev pub declared_sort : Ty → Option SortId
declared_sort Ty.Bool = None
declared_sort (Ty.Of s) = Some s

abbrev pub is_of_sort : Option SortId → Ty → Bool
is_of_sort None t = false
is_of_sort (Some s) Ty.Bool = false
is_of_sort (Some s) (Ty.Of u) = s.0 == u.0

-- arguments of the types of a rank, one for each
abbrev pub are_arguments : List Sort → List Ty → Sorted
are_arguments [] [] sig scope = true
are_arguments [] (t ∷ ts) sig scope = false
are_arguments (a ∷ as') [] sig scope = false
are_arguments (a ∷ as') (t ∷ ts) sig scope = is_of_sort (a sig scope) t && are_arguments as' ts sig scope

abbrev pub have_one_sort : Option SortId → Option SortId → Bool
have_one_sort None b = false
have_one_sort (Some s) b = is_of_sort b (Ty.Of s)

abbrev pub is_predicate_of : List Sort → Option Rank → Sorted
is_predicate_of ts None sig scope = false
is_predicate_of ts (Some rank) sig scope = is_bool rank.result && are_arguments ts rank.args sig scope

abbrev pub result_of : List Sort → Option Rank → Sort
result_of ts None sig scope = None
result_of ts (Some rank) sig scope = cond (are_arguments ts rank.args sig scope) (declared_sort rank.result) None

abbrev pub all_sorted : List Sorted → Sorted
all_sorted [] sig scope = true
all_sorted (f ∷ fs) sig scope = f sig scope && all_sorted fs sig scope

abbrev pub sorted_step : Formula-F Sorted Sort → Sorted
sorted_step (Formula-F.Truth b) sig scope = true
sorted_step (Formula-F.Pred p ts) sig scope = is_predicate_of ts (slice_get sig.ranks p.0) sig scope
sorted_step (Formula-F.Equal a b) sig scope = have_one_sort (a sig scope) (b sig scope)
sorted_step (Formula-F.Not a) sig scope = a sig scope
sorted_step (Formula-F.And fs) sig scope = all_sorted fs sig scope
sorted_step (Formula-F.Or fs) sig scope = all_sorted fs sig scope
sorted_step (Formula-F.Iff a b) sig scope = a sig scope && b sig scope
sorted_step (Formula-F.«Formula::Ite» c a b) sig scope = c sig scope && (a sig scope && b sig scope)
sorted_step (Formula-F.Quant all vars body) sig scope = list_all (λ (s : SortId). nat_lt s.0 sig.sorts) vars && body sig (scope ++ vars)

abbrev pub sort_step : Fterm-F Sorted Sort → Sort
sort_step (Fterm-F.Var v) sig scope = slice_get scope v
sort_step (Fterm-F.App f ts) sig scope = result_of ts (slice_get sig.ranks f.0) sig scope
sort_step (Fterm-F.«Fterm::Ite» c a b) sig scope = cond (c sig scope && have_one_sort (a sig scope) (b sig scope)) (a sig scope) None

-- the formula is well sorted under the variables in scope
abbrev pub is_well_sorted : Formula → Sorted
is_well_sorted = fold-Formula Sorted Sort sorted_step sort_step

-- the sort of a well sorted term, else None
abbrev pub sort_of : Fterm → Sort
sort_of = fold-Fterm Sorted Sort sorted_step sort_step

-- a well sorted formula without free variables
abbrev pub is_closed : Formula → Sig → Bool
is_closed f sig = is_well_sorted f sig []
