-- What reads the symbols below a bound alone.
use Rattle.std.proofs.Common.{◌≡◌, ℕ, ◌+◌, ◌<◌, ◌≤◌, Bool, true, ◌&&◌, ◌||◌, List, [], ◌∷◌, ◌++◌, length, map, ap, refl, sym, subst, ◌∙◌, arith}
use Rattle.std.specs.Prelude.{◌==◌, nat_lt}
use Rattle.std.proofs.lemmas.Bool.{and_parts, ltb-true}
use Rattle.fm_base.specs.Interpretations.{Reading, values_of}
use Rattle.fm_base.specs.Truth.{Truth, all_true, some_true, block}
use Rattle.fm_base.specs.declared.ids.SortId.{SortId}
use Rattle.fm_base.specs.declared.ids.SymId.{SymId}
use Rattle.fm_base.specs.declared.signature.Rank.{Rank}
use Rattle.fm_base.specs.declared.formula.Patom.{Patom}
use Rattle.fm_base.specs.declared.formula.Pterm
use Rattle.fm_base.specs.declared.formula.Pterm.{Pterm}
use Rattle.fm_base.specs.Normal.{Valued, patom_true, value}
use Rattle.fm_base.specs.Expansions.{Symbols, Agree, RanksFit, with_symbols}
use Rattle.fm_nnf.specs.NormalTruth.{is_term_below, is_atom_below, all_of}
use Rattle.fm_base.proofs.NormalTerms.{Each, term_induction, value_of_var, value_of_app}
use Rattle.fm_nnf.proofs.Normals.{below_of_app}

abbrev pub Local : ℕ → Truth → Type 0
Local n t = (size : ℕ → ℕ) (a b : Symbols) (env : List ℕ) → Agree n a b → t (with_symbols size b) env ≡ t (with_symbols size a) env

pub agree_less : (n k : ℕ) (a b : Symbols) → n ≤ k → Agree k a b → Agree n a b
agree_less n k a b le agree = λ f xs lt. agree f xs (omega arith)

pub agree_chain : (n : ℕ) (a b c : Symbols) → Agree n a b → Agree n b c → Agree n a c
agree_chain n a b c p q = λ f xs lt. q f xs lt ∙ p f xs lt

pub local_more : (n k : ℕ) (t : Truth) → n ≤ k → Local n t → Local k t
local_more n k t le local = λ size a b env agree. local size a b env (agree_less n k a b le agree)

module _ (bound : ℕ) where
  abbrev LocalTerm : Pterm → Type 0
  LocalTerm t = is_term_below bound t ≡ true → (size : ℕ → ℕ) (a b : Symbols) (env : List ℕ) → Agree bound a b → value t (with_symbols size b) env ≡ value t (with_symbols size a) env

  local_var : (v : ℕ) → LocalTerm (Pterm.Var v)
  local_var v e size a b env agree = value_of_var v (with_symbols size b) env ∙ sym (value_of_var v (with_symbols size a) env)

  local_all : (ts : List Pterm) → Each LocalTerm ts → all_of (map (is_term_below bound) ts) ≡ true → (size : ℕ → ℕ) (a b : Symbols) (env : List ℕ) → Agree bound a b → map (λ (t : Valued). t (with_symbols size b) env) (map value ts) ≡ map (λ (t : Valued). t (with_symbols size a) env) (map value ts)
  local_all [] each e size a b env agree = refl
  local_all (t ∷ ts) each e size a b env agree =
      let p = and_parts (is_term_below bound t) (all_of (map (is_term_below bound) ts)) e in
      let head = each.0 p.0 size a b env agree in
      let tail = local_all ts each.1 p.1 size a b env agree in
      λ i. head i ∷ tail i

  local_app : (f : SymId) (ts : List Pterm) → Each LocalTerm ts → LocalTerm (Pterm.App f ts)
  local_app f ts each e size a b env agree =
      let p = and_parts (nat_lt f.0 bound) (all_of (map (is_term_below bound) ts)) (sym (below_of_app bound f ts) ∙ e) in
      let args = local_all ts each p.1 size a b env agree in
      value_of_app f ts (with_symbols size b) env ∙ ap (b f.0) args ∙ agree f.0 (map (λ (t : Valued). t (with_symbols size a) env) (map value ts)) (ltb-true f.0 bound p.0) ∙ sym (value_of_app f ts (with_symbols size a) env)

  local_term : (t : Pterm) → LocalTerm t
  local_term = term_induction LocalTerm local_var local_app

  pub local_terms : (ts : List Pterm) → all_of (map (is_term_below bound) ts) ≡ true → (size : ℕ → ℕ) (a b : Symbols) (env : List ℕ) → Agree bound a b → map (λ (t : Pterm). value t (with_symbols size b) env) ts ≡ map (λ (t : Pterm). value t (with_symbols size a) env) ts
  local_terms [] e size a b env agree = refl
  local_terms (t ∷ ts) e size a b env agree =
      let p = and_parts (is_term_below bound t) (all_of (map (is_term_below bound) ts)) e in
      let head = local_term t p.0 size a b env agree in
      let tail = local_terms ts p.1 size a b env agree in
      λ i. head i ∷ tail i

  pub local_atom : (p : Patom) → is_atom_below bound p ≡ true → Local bound (λ m env. patom_true m env p)
  local_atom (Patom.Pred p ts) e size a b env agree =
      let q = and_parts (nat_lt p.0 bound) (all_of (map (is_term_below bound) ts)) e in
      ap (λ (xs : List ℕ). b p.0 xs == 1) (local_terms ts q.1 size a b env agree) ∙ ap (λ (x : ℕ). x == 1) (agree p.0 (map (λ (t : Pterm). value t (with_symbols size a) env) ts) (ltb-true p.0 bound q.0))
  local_atom (Patom.Equal s t) e size a b env agree =
      let q = and_parts (is_term_below bound s) (is_term_below bound t) e in
      let left = local_term s q.0 size a b env agree in
      let right = local_term t q.1 size a b env agree in
      λ i. left i == right i

abbrev pub Locals : ℕ → List Truth → Type 0
Locals n [] = Unit {0}
Locals n (t ∷ ts) = Local n t × Locals n ts

pub local_all_true : (n : ℕ) (ts : List Truth) → Locals n ts → Local n (all_true ts)
local_all_true n [] h size a b env agree = refl
local_all_true n (t ∷ ts) h size a b env agree =
    let left = h.0 size a b env agree in
    let right = local_all_true n ts h.1 size a b env agree in
    λ i. left i && right i

pub local_some_true : (n : ℕ) (ts : List Truth) → Locals n ts → Local n (some_true ts)
local_some_true n [] h size a b env agree = refl
local_some_true n (t ∷ ts) h size a b env agree =
    let left = h.0 size a b env agree in
    let right = local_some_true n ts h.1 size a b env agree in
    λ i. left i || right i

pub local_block : (n : ℕ) (all : Bool) (vars : List SortId) (t : Truth) → Local n t → Local n (λ m env. block m all vars (λ inner. t m inner) env)
local_block n all vars t h size a b env agree = λ i. block (with_symbols size a) all vars (λ inner. h size a b inner agree i) env

-- ranks that fit
pub fits_along : (size : ℕ → ℕ) (a b : Symbols) (n next : ℕ) (rs : List Rank) → next + length rs ≤ n → Agree n a b → RanksFit (with_symbols size a) next rs → RanksFit (with_symbols size b) next rs
fits_along size a b n next [] le agree h = tt
fits_along size a b n next (r ∷ rs) le agree h =
    ((λ xs t. subst (λ (v : ℕ). v < values_of (with_symbols size a) r.result) (sym (agree next xs (omega arith))) (h.0 xs t)), fits_along size a b n (next + 1) rs (omega arith) agree h.1)

pub fits_both : (m : Reading) (next : ℕ) (rs qs : List Rank) → RanksFit m next rs → RanksFit m (next + length rs) qs → RanksFit m next (rs ++ qs)
fits_both m next [] qs h t = subst (λ (k : ℕ). RanksFit m k qs) (omega arith) t
fits_both m next (r ∷ rs) qs h t = (h.0, fits_both m (next + 1) rs qs h.1 (subst (λ (k : ℕ). RanksFit m k qs) (omega arith) t))
