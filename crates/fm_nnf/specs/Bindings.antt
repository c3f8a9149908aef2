-- What stands for a variable in scope of a formula whose normal form is being made, and what making adds.
use Rattle.std.specs.Prelude.{◌≡◌, ℕ, zero, suc, ◌+◌, Bool, List, [], ◌∷◌, ◌++◌, Vec, length, map}
use Rattle.std.specs.declared.alloc.Global.{Global}
use Rattle.fm_base.specs.declared.ids.SortId.{SortId}
use Rattle.fm_base.specs.declared.signature.Rank.{Rank}
use Rattle.fm_base.specs.declared.ids.SymId.{SymId}
use Rattle.fm_base.specs.declared.formula.Formula.{Formula}
use Rattle.fm_base.specs.declared.formula.Fterm.{Fterm}
use Rattle.fm_base.specs.declared.formula.Nnf.{Nnf}
use Rattle.fm_base.specs.declared.formula.Patom.{Patom}
use Rattle.fm_base.specs.declared.formula.Pterm
use Rattle.fm_base.specs.declared.formula.Pterm.{Pterm}
use Rattle.fm_nnf.specs.declared.making.Binding.{Binding}
use Rattle.fm_nnf.specs.NormalForm.{Former, formed_all, formed_each, formed_iff, formed_ite, formed_junction, formed_or, formed_some, normal_form, normal_term, terms_at, with_sign}

-- the first n variables
unfoldable pub first_variables : ℕ → List Pterm
first_variables zero = []
first_variables (suc n) = first_variables n ++ Pterm.Var n ∷ []

abbrev pub term_of : Binding → Pterm
term_of (Binding.Universal v) = Pterm.Var v
term_of (Binding.Applied f n) = Pterm.App f (first_variables n)

abbrev pub terms_of : List Binding → List Pterm
terms_of bindings = map term_of bindings

-- what is formed, numbered on from the ranks so far, and its ranks behind those
abbrev pub Makes : {A : Type 0} → Former A → List Binding → List SortId → ℕ → List Rank → List Rank → A → Type 0
Makes k bindings scope first old new made =
    (made ≡ (k (terms_of bindings) scope (first + length old)).0) × (new ≡ old ++ (k (terms_of bindings) scope (first + length old)).1)

-- the same of the lists that hold the ranks
abbrev pub MakesIn : {A : Type 0} → Former A → List Binding → List SortId → ℕ → Vec Rank Global → Vec Rank Global → A → Type 0
MakesIn k bindings scope first old new made = Makes k bindings scope first old.items new.items made

-- what each function forms
abbrev pub predicate_at : SymId → List Fterm → List Binding → Patom
predicate_at p ts bindings = Patom.Pred p (terms_at (map normal_term ts) (terms_of bindings))

abbrev pub equation_at : Fterm → Fterm → List Binding → Patom
equation_at a b bindings = Patom.Equal (normal_term a (terms_of bindings)) (normal_term b (terms_of bindings))

abbrev pub all_of : List Formula → Bool → Former (List Nnf)
all_of fs positive = formed_all (with_sign positive (map normal_form fs))

abbrev pub junction_of : List Formula → Bool → Bool → Former Nnf
junction_of fs conjunctive positive = formed_junction conjunctive (with_sign positive (map normal_form fs))

abbrev pub iff_of : Formula → Formula → Bool → Former Nnf
iff_of a b positive = formed_iff (normal_form a) (normal_form b) positive

abbrev pub ite_of : Formula → Formula → Formula → Bool → Former Nnf
ite_of c a b positive = formed_ite (normal_form c) (normal_form a) (normal_form b) positive

abbrev pub or_of : Formula → Bool → Formula → Bool → Former Nnf
or_of a a_positive b b_positive = formed_or (normal_form a a_positive ∷ normal_form b b_positive ∷ [])

abbrev pub each_of : List SortId → Formula → Bool → Former Nnf
each_of vars body positive = formed_each vars (normal_form body positive)

abbrev pub some_of : List SortId → Formula → Bool → Former Nnf
some_of vars body positive = formed_some vars (normal_form body positive)
