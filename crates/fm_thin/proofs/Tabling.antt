-- The clauses of thin assertions in the clause table: none for `true`, one without literals for `false`, one for an equation.
use Rattle.std.proofs.Common.{◌≡◌, ℕ, suc, ◌+◌, inl, inr, Bool, true, false, List, [], ◌∷◌, ◌++◌, length, Option, Some, None, ap, refl, sym, subst, ◌∙◌, arith, zero-add}
use Rattle.std.specs.Prelude.{slice_get}
use Rattle.std.specs.List.{list_all}
use Rattle.std.specs.Option.{option_map}
use Rattle.std.proofs.lemmas.Bool.{and_parts}
use Rattle.std.proofs.lemmas.List.{append-nil}
use mathlib.Core.Bool.{beq}
use Rattle.fm_base.specs.declared.ids.SymId.{SymId}
use Rattle.fm_base.specs.declared.signature.Rank.{Rank}
use Rattle.fm_base.specs.declared.signature.Sig.{Sig}
use Rattle.fm_base.specs.declared.formula.Formula.{Formula}
use Rattle.fm_base.specs.declared.formula.Fterm
use Rattle.fm_base.specs.declared.formula.Fterm.{Fterm}
use Rattle.fm_base.specs.declared.formula.Nnf
use Rattle.fm_base.specs.declared.formula.Nnf.{Nnf}
use Rattle.fm_base.specs.declared.formula.Patom.{Patom}
use Rattle.fm_base.specs.declared.formula.Pterm.{Pterm}
use Rattle.fm_bank.specs.declared.clause.Clause.{Clause}
use Rattle.fm_nnf.specs.Lifting.{Lifted, Lifter, TermLifter, alone, lift_formula_step, lift_term, lift_term_step, lifted, lifted_equal, mapped, type_of_symbol}
use Rattle.fm_nnf.specs.NormalForm.{Signed, form_step, formed_junction, normal, normal_term, term_form_step}
use Rattle.fm_nnf.proofs.Formulas.{fold_at_truth, fold_at_equal, fold_at_app}
use Rattle.fm_nnf.proofs.Normals.{fold_of_lit, fold_of_and, fold_of_or}
use Rattle.fm_clauses.specs.Assertions.{assertion_made, assertions_made, form_made, forms_made}
use Rattle.fm_clauses.specs.Narrow.{clause_of}
use Rattle.fm_clauses.specs.Table.{Node, clauses_of_normal, node_step}
use Rattle.fm_thin.specs.Thin.{falsity_behind, falsity_in, is_thin, kind_of, truth_kind}
use Rattle.fm_thin.specs.declared.thin.Kind.{Kind}
use Rattle.fm_thin.proofs.Shapes.{Shape, constant, equation, kind_of_equation, kind_of_truth, shape}

abbrev pub empty_clause : Clause
empty_clause = record { vars = []; lits = [] }

abbrev F : Type 0
F = List Pterm → Pterm

-- without `ite`s and quantifiers the clauses are those of the normal form
abbrev bare : Formula → Lifted Formula
bare f = record { made = f; definitions = []; ranks = [] }

abbrev clauses_behind : ℕ → Lifted Formula → List Clause
clauses_behind next l = (forms_made (l.made ∷ l.definitions) (next + length l.ranks)).0

abbrev clauses_at : ℕ → Nnf × List Rank → List Clause
clauses_at next r = (clauses_of_normal r.0 (next + length r.1)).0

bare_clauses : (sig : Sig) (f : Formula) (next : ℕ) (n : Nnf) (cs : List Clause) → lifted sig f next ≡ bare f → ((m : ℕ) → normal f m ≡ (n, [])) → ((m : ℕ) → (clauses_of_normal n m).0 ≡ cs) → (assertion_made sig f next).0 ≡ cs
bare_clauses sig f next n cs lift form clauses =
    let m = next + 0 in
    ap (clauses_behind next) lift ∙ (append-nil (form_made f m).0 ∙ (ap (clauses_at m) (form m) ∙ clauses (m + 0)))

clauses_of_truth : (sig : Sig) (b : Bool) (next : ℕ) (n : Nnf) (cs : List Clause) → ((m : ℕ) → formed_junction (beq b true) [] [] [] m ≡ (n, [])) → ((m : ℕ) → (clauses_of_normal n m).0 ≡ cs) → (assertion_made sig (Formula.Truth b) next).0 ≡ cs
clauses_of_truth sig b next n cs form clauses =
    bare_clauses sig (Formula.Truth b) next n cs
    (ap (λ (k : Lifter Formula). k [] next) (fold_at_truth (Lifter Formula) TermLifter lift_formula_step (lift_term_step sig) b))
    (λ m. ap (λ (k : Signed). k true [] [] m) (fold_at_truth Signed F form_step term_form_step b) ∙ form m)
    clauses

abbrev clauses_from : ℕ → Node → List Clause
clauses_from m x = (x.run [] [] m).0

pub clauses_of_true : (sig : Sig) (next : ℕ) → (assertion_made sig (Formula.Truth true) next).0 ≡ []
clauses_of_true sig next = clauses_of_truth sig true next (Nnf.And []) [] (λ m. refl) (λ m. ap (clauses_from m) (fold_of_and Node node_step []))

pub clauses_of_false : (sig : Sig) (next : ℕ) → (assertion_made sig (Formula.Truth false) next).0 ≡ empty_clause ∷ []
clauses_of_false sig next = clauses_of_truth sig false next (Nnf.Or []) (empty_clause ∷ []) (λ m. refl) (λ m. ap (clauses_from m) (fold_of_or Node node_step []))

abbrev lifter : Sig → SymId → TermLifter
lifter sig a = record { lift = mapped (λ xs. Fterm.App a xs) (alone []); type = λ scope. type_of_symbol (slice_get sig.ranks a.0) }

lift_constant : (sig : Sig) (a : SymId) → lift_term sig (constant a) ≡ lifter sig a
lift_constant sig a = fold_at_app (Lifter Formula) TermLifter lift_formula_step (lift_term_step sig) a []

lift_equation : (sig : Sig) (a b : SymId) (next : ℕ) → lifted sig (equation a b) next ≡ bare (equation a b)
lift_equation sig a b next =
    let x = lift_constant sig a in
    let y = lift_constant sig b in
    let both : lifted_equal (lift_term sig (constant a)) (lift_term sig (constant b)) ≡ lifted_equal (lifter sig a) (lifter sig b) = λ i. lifted_equal (x i) (y i) in
    ap (λ (k : Lifter Formula). k [] next) (fold_at_equal (Lifter Formula) TermLifter lift_formula_step (lift_term_step sig) (constant a) (constant b) ∙ both)

abbrev atom_of : SymId → SymId → Patom
atom_of a b = Patom.Equal (normal_term (constant a) []) (normal_term (constant b) [])

abbrev pub equation_clause : SymId → SymId → Clause
equation_clause a b = clause_of [] (record { positive = true; atom = atom_of a b } ∷ [])

pub clauses_of_equation : (sig : Sig) (a b : SymId) (next : ℕ) → (assertion_made sig (equation a b) next).0 ≡ equation_clause a b ∷ []
clauses_of_equation sig a b next =
    bare_clauses sig (equation a b) next (Nnf.Lit true (atom_of a b)) (equation_clause a b ∷ []) (lift_equation sig a b next)
    (λ m. ap (λ (k : Signed). k true [] [] m) (fold_at_equal Signed F form_step term_form_step (constant a) (constant b)))
    (λ m. ap (clauses_from m) (fold_of_lit Node node_step true (atom_of a b)))

-- the clauses of an assertion, by its kind
abbrev HasClauses : Kind → List Clause → Type 0
HasClauses Kind.Always cs = cs ≡ []
HasClauses Kind.Never cs = cs ≡ empty_clause ∷ []
HasClauses Kind.Equation cs = (c : Clause) × (cs ≡ c ∷ [])
HasClauses Kind.Other cs = ⊥

truth_clauses : (sig : Sig) (b : Bool) (next : ℕ) → HasClauses (truth_kind b) (assertion_made sig (Formula.Truth b) next).0
truth_clauses sig true next = clauses_of_true sig next
truth_clauses sig false next = clauses_of_false sig next

shape_clauses : (sig : Sig) (f : Formula) (next : ℕ) → Shape sig f → HasClauses (kind_of f sig) (assertion_made sig f next).0
shape_clauses sig f next (inl t) =
    let here = subst (λ (k : Kind). HasClauses k (assertion_made sig (Formula.Truth t.0) next).0) (sym (kind_of_truth sig t.0)) (truth_clauses sig t.0 next) in
    subst (λ (g : Formula). HasClauses (kind_of g sig) (assertion_made sig g next).0) (sym t.1) here
shape_clauses sig f next (inr e) =
    let one : HasClauses Kind.Equation (assertion_made sig (equation e.left e.right) next).0 = (equation_clause e.left e.right, clauses_of_equation sig e.left e.right next) in
    let here = subst (λ (k : Kind). HasClauses k (assertion_made sig (equation e.left e.right) next).0) (sym (kind_of_equation sig e.left e.right e.sorted)) one in
    subst (λ (g : Formula). HasClauses (kind_of g sig) (assertion_made sig g next).0) (sym e.is) here

behind_none : (rest : List Clause) (o : Option ℕ) (n : ℕ) → ((i : ℕ) → o ≡ Some i → slice_get rest i ≡ Some empty_clause) → option_map (λ i. 0 + i) o ≡ Some n → slice_get rest n ≡ Some empty_clause
behind_none rest None n later e = cc e
behind_none rest (Some i) n later e =
    let there : 0 + i ≡ n = cc e in
    subst (λ (k : ℕ). slice_get rest k ≡ Some empty_clause) (sym (zero-add i) ∙ there) (later i refl)

behind_one : (c : Clause) (rest : List Clause) (o : Option ℕ) (n : ℕ) → ((i : ℕ) → o ≡ Some i → slice_get rest i ≡ Some empty_clause) → option_map (λ i. 1 + i) o ≡ Some n → slice_get (c ∷ rest) n ≡ Some empty_clause
behind_one c rest None n later e = cc e
behind_one c rest (Some i) n later e =
    let there : 1 + i ≡ n = cc e in
    let next : suc i ≡ n = omega (arith, there) in
    subst (λ (k : ℕ). slice_get (c ∷ rest) k ≡ Some empty_clause) next (later i refl)

behind : (k : Kind) (cs rest : List Clause) (o : Option ℕ) (n : ℕ) → HasClauses k cs → ((i : ℕ) → o ≡ Some i → slice_get rest i ≡ Some empty_clause) → falsity_behind k o ≡ Some n → slice_get (cs ++ rest) n ≡ Some empty_clause
behind Kind.Always cs rest o n h later e = subst (λ (xs : List Clause). slice_get (xs ++ rest) n ≡ Some empty_clause) (sym h) (behind_none rest o n later e)
behind Kind.Never cs rest o n h later e =
    let first : 0 ≡ n = cc e in
    subst (λ (xs : List Clause). slice_get (xs ++ rest) n ≡ Some empty_clause) (sym h) (subst (λ (k : ℕ). slice_get (empty_clause ∷ rest) k ≡ Some empty_clause) first refl)
behind Kind.Equation cs rest o n (c, h) later e = subst (λ (xs : List Clause). slice_get (xs ++ rest) n ≡ Some empty_clause) (sym h) (behind_one c rest o n later e)
behind Kind.Other cs rest o n h later e = absurd h

-- the clause without literals stands where the first `false` puts it
pub clause_of_falsity : (sig : Sig) (fs : List Formula) (next n : ℕ) → list_all (is_thin sig) fs ≡ true → falsity_in sig fs ≡ Some n → slice_get (assertions_made sig fs next).0 n ≡ Some empty_clause
clause_of_falsity sig [] next n thin e = cc e
clause_of_falsity sig (f ∷ fs) next n thin e =
    let p = and_parts (is_thin sig f) (list_all (is_thin sig) fs) thin in
    let one = assertion_made sig f next in
    behind (kind_of f sig) one.0 (assertions_made sig fs (next + length one.1)).0 (falsity_in sig fs) n (shape_clauses sig f next (shape sig f p.0)) (λ i h. clause_of_falsity sig fs (next + length one.1) i p.1 h) e
