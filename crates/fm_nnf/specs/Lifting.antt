-- Term `ite`s taken out of a formula: each gets a new symbol, applied to the bound variables that stand free in it, and a
-- definition of that symbol, universally closed.
use Rattle.std.specs.Prelude.{ℕ, zero, suc, ◌+◌, ◌==◌, true, false, ◌||◌, nat_le, List, [], ◌∷◌, ◌++◌, length, map, slice_get, Option, Some, None}
use Rattle.std.specs.List.{list_any}
use Rattle.fm_base.specs.declared.ids.SortId.{SortId}
use Rattle.fm_base.specs.declared.signature.Rank.{Rank}
use Rattle.fm_base.specs.declared.signature.Sig.{Sig}
use Rattle.fm_base.specs.declared.signature.Ty.{Ty}
use Rattle.fm_base.specs.declared.formula.Formula
use Rattle.fm_base.specs.declared.formula.Formula.{Formula}
use Rattle.fm_base.specs.declared.formula.Fterm
use Rattle.fm_base.specs.declared.formula.Fterm.{Fterm}
use Rattle.fm_base.specs.declared.formula.Formula.TheOpen.{Formula-F, Fterm-F}
use Rattle.fm_base.specs.declared.formula.Formula.TheFolds.{fold-Formula, fold-Fterm}
use Rattle.fm_nnf.specs.Places.{Occurs, kept, place}

-- which variables stand in a formula or term; the variables in scope are the numbers below its depth
abbrev pub any_has : List Occurs → Occurs
any_has ts k = list_any (λ (t : Occurs). t k) ts

abbrev pub formula_has_step : Formula-F Occurs Occurs → Occurs
formula_has_step (Formula-F.Truth b) k = false
formula_has_step (Formula-F.Pred p ts) k = any_has ts k
formula_has_step (Formula-F.Equal a b) k = a k || b k
formula_has_step (Formula-F.Not a) k = a k
formula_has_step (Formula-F.And fs) k = any_has fs k
formula_has_step (Formula-F.Or fs) k = any_has fs k
formula_has_step (Formula-F.Iff a b) k = a k || b k
formula_has_step (Formula-F.«Formula::Ite» c a b) k = c k || (a k || b k)
formula_has_step (Formula-F.Quant all vars body) k = body k

abbrev pub term_has_step : Fterm-F Occurs Occurs → Occurs
term_has_step (Fterm-F.Var v) k = v == k
term_has_step (Fterm-F.App f ts) k = any_has ts k
term_has_step (Fterm-F.«Fterm::Ite» c a b) k = c k || (a k || b k)

abbrev pub formula_has : Formula → Occurs
formula_has = fold-Formula Occurs Occurs formula_has_step term_has_step

abbrev pub term_has : Fterm → Occurs
term_has = fold-Fterm Occurs Occurs formula_has_step term_has_step

-- variables renumbered
abbrev pub AnyRenamed : Type 0 → Type 0
AnyRenamed A = (ℕ → ℕ) → A

abbrev pub all_renamed : {A : Type 0} → List (AnyRenamed A) → AnyRenamed (List A)
all_renamed {A} ts g = map (λ (t : AnyRenamed A). t g) ts

abbrev pub formula_renamed_step : Formula-F (AnyRenamed Formula) (AnyRenamed Fterm) → AnyRenamed Formula
formula_renamed_step (Formula-F.Truth b) g = Formula.Truth b
formula_renamed_step (Formula-F.Pred p ts) g = Formula.Pred p (all_renamed ts g)
formula_renamed_step (Formula-F.Equal a b) g = Formula.Equal (a g) (b g)
formula_renamed_step (Formula-F.Not a) g = Formula.Not (a g)
formula_renamed_step (Formula-F.And fs) g = Formula.And (all_renamed fs g)
formula_renamed_step (Formula-F.Or fs) g = Formula.Or (all_renamed fs g)
formula_renamed_step (Formula-F.Iff a b) g = Formula.Iff (a g) (b g)
formula_renamed_step (Formula-F.«Formula::Ite» c a b) g = Formula.Ite (c g) (a g) (b g)
formula_renamed_step (Formula-F.Quant all vars body) g = Formula.Quant all vars (body g)

abbrev pub term_renamed_step : Fterm-F (AnyRenamed Formula) (AnyRenamed Fterm) → AnyRenamed Fterm
term_renamed_step (Fterm-F.Var v) g = Fterm.Var (g v)
term_renamed_step (Fterm-F.App f ts) g = Fterm.App f (all_renamed ts g)
term_renamed_step (Fterm-F.«Fterm::Ite» c a b) g = Fterm.Ite (c g) (a g) (b g)

abbrev pub formula_renamed : Formula → AnyRenamed Formula
formula_renamed = fold-Formula (AnyRenamed Formula) (AnyRenamed Fterm) formula_renamed_step term_renamed_step

abbrev pub term_renamed : Fterm → AnyRenamed Fterm
term_renamed = fold-Fterm (AnyRenamed Formula) (AnyRenamed Fterm) formula_renamed_step term_renamed_step

-- what stands in place of a formula or term, the definitions and the ranks of the new symbols, in the order made
pub record Lifted (A : Type 0) : Type 0 where
  pub made : A
  pub definitions : List Formula
  pub ranks : List Rank

-- the sorts of the variables in scope, the number of the next symbol
abbrev pub Lifter : Type 0 → Type 0
Lifter A = List SortId → ℕ → Lifted A

abbrev pub alone : {A : Type 0} → A → Lifter A
alone x scope next = record { made = x; definitions = []; ranks = [] }

abbrev pub both : {A B : Type 0} → Lifter A → Lifter B → Lifter (A × B)
both j k scope next =
    let one = j scope next in
    let two = k scope (next + length one.ranks) in
    record { made = (one.made, two.made); definitions = one.definitions ++ two.definitions; ranks = one.ranks ++ two.ranks }

abbrev pub mapped : {A B : Type 0} → (A → B) → Lifter A → Lifter B
mapped f k scope next = let r = k scope next in record { made = f r.made; definitions = r.definitions; ranks = r.ranks }

abbrev pub lift_all : {A : Type 0} → List (Lifter A) → Lifter (List A)
lift_all [] = alone []
lift_all (k ∷ ks) = mapped (λ p. p.0 ∷ p.1) (both k (lift_all ks))

abbrev pub under : {A : Type 0} → List SortId → Lifter A → Lifter A
under vars k scope next = k (scope ++ vars) next

-- condition, then-branch, else-branch
abbrev pub Parts : Type 0
Parts = Formula × (Fterm × Fterm)

abbrev pub parts_renamed : Parts → AnyRenamed Parts
parts_renamed p g = (formula_renamed p.0 g, (term_renamed p.1.0 g, term_renamed p.1.1 g))

-- the variables that stand free, and those that aren't of the scope
abbrev pub stays : ℕ → Parts → Occurs
stays depth p k = (formula_has p.0 k || (term_has p.1.0 k || term_has p.1.1 k)) || nat_le depth k

abbrev pub term_variables : ℕ → List SortId → List Fterm
term_variables k [] = []
term_variables k (s ∷ ss) = Fterm.Var k ∷ term_variables (suc k) ss

abbrev pub closed_over : List SortId → Formula → Formula
closed_over [] body = body
closed_over (v ∷ vs) body = Formula.Quant true (v ∷ vs) body

-- g is the one branch or the other
abbrev pub is_choice : Fterm → Parts → Formula
is_choice g p = Formula.And (Formula.Or (Formula.Not p.0 ∷ Formula.Equal g p.1.0 ∷ []) ∷ Formula.Or (p.0 ∷ Formula.Equal g p.1.1 ∷ []) ∷ [])

abbrev pub symbol_term : ℕ → List Fterm → Fterm
symbol_term n ts = Fterm.App (record { 0 = n }) ts

-- a symbol with variables of its own as arguments
abbrev pub own_term : ℕ → List SortId → Fterm
own_term n vars = symbol_term n (term_variables zero vars)

-- the rank of a symbol that takes variables of these sorts
abbrev pub rank_over : List SortId → Ty → Rank
rank_over vars type = record { args = map (λ (s : SortId). Ty.Of s) vars; result = type }

-- one new symbol, which takes the variables that stand free, and its definition
abbrev pub choice_of : Parts → Ty → Lifter Fterm
choice_of parts type scope next =
    let p = stays (length scope) parts in
    let vars = kept p scope in
    record {
      made = symbol_term next (kept p (term_variables zero scope));
      definitions = closed_over vars (is_choice (own_term next vars) (parts_renamed parts (place p))) ∷ [];
      ranks = rank_over vars type ∷ [];
    }

-- the parts first, then the symbol; what stands free is read off the parts without `ite`s, which is the same
abbrev pub lift_choice : Lifter Parts → (List SortId → Ty) → Lifter Fterm
lift_choice k type scope next =
    let r = k scope next in
    let one = choice_of r.made (type scope) scope (next + length r.ranks) in
    record { made = one.made; definitions = r.definitions ++ one.definitions; ranks = r.ranks ++ one.ranks }

-- a term with its type
pub record TermLifter : Type 0 where
  pub lift : Lifter Fterm
  pub type : List SortId → Ty

abbrev pub type_of_variable : Option SortId → Ty
type_of_variable None = Ty.Bool
type_of_variable (Some s) = Ty.Of s

abbrev pub type_of_symbol : Option Rank → Ty
type_of_symbol None = Ty.Bool
type_of_symbol (Some r) = r.result

abbrev pub lifts : List TermLifter → List (Lifter Fterm)
lifts ts = map (λ (t : TermLifter). t.lift) ts

abbrev pub lifted_equal : TermLifter → TermLifter → Lifter Formula
lifted_equal a b = mapped (λ x. Formula.Equal x.0 x.1) (both a.lift b.lift)

abbrev pub lifted_iff : Lifter Formula → Lifter Formula → Lifter Formula
lifted_iff a b = mapped (λ x. Formula.Iff x.0 x.1) (both a b)

abbrev pub lifted_ite : Lifter Formula → Lifter Formula → Lifter Formula → Lifter Formula
lifted_ite c a b = mapped (λ x. Formula.Ite x.0 x.1.0 x.1.1) (both c (both a b))

abbrev pub lifted_choice : Lifter Formula → TermLifter → TermLifter → Lifter Fterm
lifted_choice c a b = lift_choice (both c (both a.lift b.lift)) a.type

abbrev pub lift_formula_step : Formula-F (Lifter Formula) TermLifter → Lifter Formula
lift_formula_step (Formula-F.Truth b) = alone (Formula.Truth b)
lift_formula_step (Formula-F.Pred p ts) = mapped (λ xs. Formula.Pred p xs) (lift_all (lifts ts))
lift_formula_step (Formula-F.Equal a b) = lifted_equal a b
lift_formula_step (Formula-F.Not a) = mapped (λ x. Formula.Not x) a
lift_formula_step (Formula-F.And fs) = mapped (λ xs. Formula.And xs) (lift_all fs)
lift_formula_step (Formula-F.Or fs) = mapped (λ xs. Formula.Or xs) (lift_all fs)
lift_formula_step (Formula-F.Iff a b) = lifted_iff a b
lift_formula_step (Formula-F.«Formula::Ite» c a b) = lifted_ite c a b
lift_formula_step (Formula-F.Quant all vars body) = mapped (λ x. Formula.Quant all vars x) (under vars body)

abbrev pub lift_term_step : Sig → Fterm-F (Lifter Formula) TermLifter → TermLifter
lift_term_step sig (Fterm-F.Var v) = record { lift = alone (Fterm.Var v); type = λ scope. type_of_variable (slice_get scope v) }
lift_term_step sig (Fterm-F.App f ts) = record { lift = mapped (λ xs. Fterm.App f xs) (lift_all (lifts ts)); type = λ scope. type_of_symbol (slice_get sig.ranks f.0) }
lift_term_step sig (Fterm-F.«Fterm::Ite» c a b) = record { lift = lifted_choice c a b; type = a.type }

abbrev pub lift_formula : Sig → Formula → Lifter Formula
lift_formula sig = fold-Formula (Lifter Formula) TermLifter lift_formula_step (lift_term_step sig)

abbrev pub lift_term : Sig → Fterm → TermLifter
lift_term sig = fold-Fterm (Lifter Formula) TermLifter lift_formula_step (lift_term_step sig)

-- the formula without term `ite`s, the definitions and the ranks of the new symbols, numbered from `next` on
abbrev pub lifted : Sig → Formula → ℕ → Lifted Formula
lifted sig f next = lift_formula sig f [] next
