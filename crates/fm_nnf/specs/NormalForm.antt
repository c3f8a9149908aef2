-- Negation normal form with Skolem functions in place of existential variables, by the structure of the formula and a sign:
-- negations go inwards to the atoms, an equivalence or a choice becomes two clauses, whose parts are written twice, and a
-- quantifier that is existential under its sign goes (Skolem). A term `ite` doesn't stand there.
use Rattle.std.specs.Prelude.{ℕ, zero, suc, ◌+◌, Bool, true, false, not, get_or, List, [], ◌∷◌, ◌++◌, length, map}
use mathlib.Core.Bool.{beq}
use Rattle.fm_base.specs.declared.ids.SortId.{SortId}
use Rattle.fm_base.specs.declared.signature.Rank.{Rank}
use Rattle.fm_base.specs.declared.signature.Ty.{Ty}
use Rattle.fm_base.specs.declared.formula.Formula.{Formula}
use Rattle.fm_base.specs.declared.formula.Formula.TheOpen.{Formula-F, Fterm-F}
use Rattle.fm_base.specs.declared.formula.Formula.TheFolds.{fold-Formula, fold-Fterm}
use Rattle.fm_base.specs.declared.formula.Fterm.{Fterm}
use Rattle.fm_base.specs.declared.formula.Nnf
use Rattle.fm_base.specs.declared.formula.Nnf.{Nnf}
use Rattle.fm_base.specs.declared.formula.Patom.{Patom}
use Rattle.fm_base.specs.declared.formula.Pterm
use Rattle.fm_base.specs.declared.formula.Pterm.{Pterm}

-- what stands for each variable in scope, the sorts of the universal ones among them, and the number of the next symbol, to
-- what is formed and the ranks of the symbols made for it, in the order in which they are written
abbrev pub Former : Type 0 → Type 0
Former A = List Pterm → List SortId → ℕ → A × List Rank

abbrev pub Signed : Type 0
Signed = Bool → Former Nnf

abbrev pub formed_all : List (Former Nnf) → Former (List Nnf)
formed_all [] terms scope next = ([], [])
formed_all (k ∷ ks) terms scope next =
    let first = k terms scope next in
    let rest = formed_all ks terms scope (next + length first.1) in
    (first.0 ∷ rest.0, first.1 ++ rest.1)

abbrev pub formed_and : List (Former Nnf) → Former Nnf
formed_and ks terms scope next = let r = formed_all ks terms scope next in (Nnf.And r.0, r.1)

abbrev pub formed_or : List (Former Nnf) → Former Nnf
formed_or ks terms scope next = let r = formed_all ks terms scope next in (Nnf.Or r.0, r.1)

abbrev pub formed_junction : Bool → List (Former Nnf) → Former Nnf
formed_junction true = formed_and
formed_junction false = formed_or

abbrev pub formed_literal : Bool → (List Pterm → Patom) → Former Nnf
formed_literal positive atom terms scope next = (Nnf.Lit positive (atom terms), [])

-- the variables of these sorts, where k is the number of the first
abbrev pub all_variables : ℕ → List SortId → List Pterm
all_variables k [] = []
all_variables k (s ∷ ss) = Pterm.Var k ∷ all_variables (suc k) ss

abbrev pub formed_each : List SortId → Former Nnf → Former Nnf
formed_each vars k terms scope next = let r = k (terms ++ all_variables (length scope) vars) (scope ++ vars) next in (Nnf.All vars r.0, r.1)

-- one new symbol for each variable of the block, also for one that doesn't occur, applied to all universal variables in scope
abbrev pub skolem_terms : List SortId → ℕ → List SortId → List Pterm
skolem_terms scope next [] = []
skolem_terms scope next (v ∷ vs) = Pterm.App (record { 0 = next }) (all_variables zero scope) ∷ skolem_terms scope (next + 1) vs

abbrev pub skolem_ranks : List SortId → List SortId → List Rank
skolem_ranks scope [] = []
skolem_ranks scope (v ∷ vs) = record { args = map (λ (s : SortId). Ty.Of s) scope; result = Ty.Of v } ∷ skolem_ranks scope vs

abbrev pub formed_some : List SortId → Former Nnf → Former Nnf
formed_some vars k terms scope next = let r = k (terms ++ skolem_terms scope next vars) scope (next + length vars) in (r.0, skolem_ranks scope vars ++ r.1)

-- a quantifier that is universal under its sign stays
abbrev pub formed_quantifier : Bool → List SortId → Former Nnf → Former Nnf
formed_quantifier true = formed_each
formed_quantifier false = formed_some

abbrev pub with_sign : Bool → List Signed → List (Former Nnf)
with_sign positive fs = map (λ (f : Signed). f positive) fs

abbrev pub terms_at : List (List Pterm → Pterm) → List Pterm → List Pterm
terms_at ts terms = map (λ (t : List Pterm → Pterm). t terms) ts

-- a part that is written twice has symbols of its own each time
abbrev pub formed_iff : Signed → Signed → Signed
formed_iff a b positive = formed_and (formed_or (a (not positive) ∷ b true ∷ []) ∷ formed_or (a positive ∷ b false ∷ []) ∷ [])

abbrev pub formed_ite : Signed → Signed → Signed → Signed
formed_ite c a b positive = formed_and (formed_or (c false ∷ a positive ∷ []) ∷ formed_or (c true ∷ b positive ∷ []) ∷ [])

abbrev pub form_step : Formula-F Signed (List Pterm → Pterm) → Signed
form_step (Formula-F.Truth b) positive = formed_junction (beq b positive) []
form_step (Formula-F.Pred p ts) positive = formed_literal positive (λ terms. Patom.Pred p (terms_at ts terms))
form_step (Formula-F.Equal a b) positive = formed_literal positive (λ terms. Patom.Equal (a terms) (b terms))
form_step (Formula-F.Not a) positive = a (not positive)
form_step (Formula-F.And fs) positive = formed_junction positive (with_sign positive fs)
form_step (Formula-F.Or fs) positive = formed_junction (not positive) (with_sign positive fs)
form_step (Formula-F.Iff a b) positive = formed_iff a b positive
form_step (Formula-F.«Formula::Ite» c a b) positive = formed_ite c a b positive
form_step (Formula-F.Quant all vars body) positive = formed_quantifier (beq all positive) vars (body positive)

abbrev pub term_form_step : Fterm-F Signed (List Pterm → Pterm) → List Pterm → Pterm
term_form_step (Fterm-F.Var v) terms = get_or terms v (Pterm.Var zero)
term_form_step (Fterm-F.App f ts) terms = Pterm.App f (terms_at ts terms)
term_form_step (Fterm-F.«Fterm::Ite» c a b) terms = Pterm.Var zero

abbrev pub normal_form : Formula → Signed
normal_form = fold-Formula Signed (List Pterm → Pterm) form_step term_form_step

abbrev pub normal_term : Fterm → List Pterm → Pterm
normal_term = fold-Fterm Signed (List Pterm → Pterm) form_step term_form_step

-- the normal form of a closed formula, and the ranks of the Skolem symbols, which are numbered from `next` on
abbrev pub normal : Formula → ℕ → Nnf × List Rank
normal f next = normal_form f true [] [] next
