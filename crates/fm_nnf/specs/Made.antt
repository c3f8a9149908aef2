-- What lifting adds to the definitions and ranks so far.
use Rattle.std.specs.Prelude.{◌≡◌, ℕ, ◌+◌, List, ◌++◌, length, map}
use Rattle.fm_base.specs.declared.ids.SortId.{SortId}
use Rattle.fm_base.specs.declared.signature.Sig.{Sig}
use Rattle.fm_base.specs.declared.formula.Formula.{Formula}
use Rattle.fm_base.specs.declared.formula.Fterm.{Fterm}
use Rattle.fm_nnf.specs.declared.lifting.Made.{Made}
use Rattle.fm_nnf.specs.declared.lifting.Parts as rust
use Rattle.fm_nnf.specs.Lifting.{Lifter, Parts, lift_all, lift_formula, lift_term, lifted_choice, lifted_equal, lifted_iff, lifted_ite, lifts}

abbrev pub parts_of : rust.Parts → Parts
parts_of p = (p.test, (p.left, p.right))

-- what is lifted, numbered on from the ranks so far, with its definitions and ranks behind those
abbrev pub Lifts : {A : Type 0} → Lifter A → List SortId → ℕ → Made → Made → A → Type 0
Lifts k scope first old new lifted =
    let r = k scope (first + length old.ranks.items) in
    (lifted ≡ r.made) × (new.definitions.items ≡ old.definitions.items ++ r.definitions) × (new.ranks.items ≡ old.ranks.items ++ r.ranks)

-- the lifters of several formulas or terms
abbrev pub formulas_of : Sig → List Formula → Lifter (List Formula)
formulas_of sig fs = lift_all (map (lift_formula sig) fs)

abbrev pub terms_of : Sig → List Fterm → Lifter (List Fterm)
terms_of sig ts = lift_all (lifts (map (lift_term sig) ts))

abbrev pub equation_of : Sig → Fterm → Fterm → Lifter Formula
equation_of sig a b = lifted_equal (lift_term sig a) (lift_term sig b)

abbrev pub equivalence_of : Sig → Formula → Formula → Lifter Formula
equivalence_of sig a b = lifted_iff (lift_formula sig a) (lift_formula sig b)

abbrev pub ite_of : Sig → Formula → Formula → Formula → Lifter Formula
ite_of sig c a b = lifted_ite (lift_formula sig c) (lift_formula sig a) (lift_formula sig b)

abbrev pub term_ite_of : Sig → Formula → Fterm → Fterm → Lifter Fterm
term_ite_of sig c a b = lifted_choice (lift_formula sig c) (lift_term sig a) (lift_term sig b)
