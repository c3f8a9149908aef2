-- Literals that read the symbols below a bound alone.
use Rattle.std.proofs.Common.{◌≡◌, ℕ, true, ◌||◌, List, ◌∷◌, ◌++◌, ap, sym, ◌∙◌}
use Rattle.std.proofs.lemmas.List.Folds.{list_any-append}
use Rattle.fm_base.specs.Expansions.{with_symbols}
use Rattle.fm_bank.specs.Clauses.{lits_true, plit_true, signed}
use Rattle.fm_bank.specs.declared.clause.Plit.{Plit}
use Rattle.fm_nnf.specs.NormalTruth.{is_atom_below}
use Rattle.fm_nnf.proofs.Locals.{Local, local_atom}

pub local_literal : (bound : ℕ) (l : Plit) → is_atom_below bound l.atom ≡ true → Local bound (λ m env. plit_true m env l)
local_literal bound l e size a b env agree = ap (signed l.positive) (local_atom bound l.atom e size a b env agree)

abbrev pub LocalLits : ℕ → List Plit → Type 0
LocalLits n lits = Local n (λ m env. lits_true m env lits)

pub local_lits_both : (n : ℕ) (xs ys : List Plit) → LocalLits n xs → LocalLits n ys → LocalLits n (xs ++ ys)
local_lits_both n xs ys p q size a b env agree =
    let left = p size a b env agree in
    let right = q size a b env agree in
    list_any-append (plit_true (with_symbols size b) env) xs ys ∙ (λ i. left i || right i) ∙ sym (list_any-append (plit_true (with_symbols size a) env) xs ys)

pub local_lits_more : (n : ℕ) (l : Plit) (ys : List Plit) → Local n (λ m env. plit_true m env l) → LocalLits n ys → LocalLits n (l ∷ ys)
local_lits_more n l ys p q size a b env agree =
    let left = p size a b env agree in
    let right = q size a b env agree in
    λ i. left i || right i
