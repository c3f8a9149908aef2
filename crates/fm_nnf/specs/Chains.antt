-- Normal forms of several formulas, numbered on from one to the next, and what they say together.
use Rattle.std.specs.Prelude.{◌≡◌, ℕ, ◌+◌, true, ◌↔◌, List, [], ◌∷◌, ◌++◌, length}
use Rattle.fm_base.specs.Expansions.{Expansion, with_symbols}
use Rattle.fm_base.specs.Interpretations.{Reading, IsInterpretation}
use Rattle.fm_base.specs.Truth.{truth, is_closed}
use Rattle.fm_base.specs.declared.signature.Rank.{Rank}
use Rattle.fm_base.specs.declared.signature.Sig.{Sig}
use Rattle.fm_base.specs.declared.formula.Formula.{Formula}
use Rattle.fm_base.specs.declared.formula.Nnf.{Nnf}
use Rattle.fm_nnf.specs.Lifting.{lifted}
use Rattle.fm_nnf.specs.LiftLaw.{with_ranks}
use Rattle.fm_nnf.specs.NormalForm.{normal}
use Rattle.fm_nnf.specs.NormalTruth.{nnf_true}

abbrev pub forms_of : List Formula → ℕ → List Nnf × List Rank
forms_of [] next = ([], [])
forms_of (f ∷ fs) next =
    let one = normal f next in
    let rest = forms_of fs (next + length one.1) in
    (one.0 ∷ rest.0, one.1 ++ rest.1)

abbrev pub AllAreTrue : Reading → List Nnf → Type 0
AllAreTrue m [] = Unit {0}
AllAreTrue m (x ∷ xs) = (nnf_true x m [] ≡ true) × AllAreTrue m xs

-- an expansion by new symbols, of the same sizes, makes all normal forms true
pub record ExpandsToAll (m : Reading) (next : ℕ) (made : List Nnf × List Rank) : Type 0 where
  pub expansion : Expansion m.size m.at next made.1
  pub hold : AllAreTrue (with_symbols m.size expansion.at) made.0

-- a formula is true exactly where an expansion by the symbols of its term `ite`s, and then by the Skolem functions of the lifted
-- formula and of each definition, makes the normal forms of all these true
abbrev pub LiftedFormsSayTheSame : Type 0
LiftedFormsSayTheSame = (sig : Sig) (more : List Rank) (f : Formula) (m : Reading) → is_closed f sig ≡ true → let big = with_ranks sig more in IsInterpretation big m →
    let l = lifted sig f (length big.ranks) in
    let made = forms_of (l.made ∷ l.definitions) (length big.ranks + length l.ranks) in
    (truth f m [] ≡ true) ↔ ExpandsToAll m (length big.ranks) (made.0, l.ranks ++ made.1)
