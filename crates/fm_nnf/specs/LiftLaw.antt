-- What lifting term `ite`s out of a formula says: the formula, over the expansions by the new symbols.
use Rattle.std.specs.Prelude.{◌≡◌, true, ◌↔◌, List, [], ◌∷◌, ◌++◌, length}
use Rattle.fm_base.specs.Expansions.{Expansion, with_symbols}
use Rattle.fm_base.specs.Interpretations.{Reading, IsInterpretation}
use Rattle.fm_base.specs.Truth.{truth, is_closed}
use Rattle.fm_base.specs.declared.signature.Rank.{Rank}
use Rattle.fm_base.specs.declared.signature.Sig.{Sig}
use Rattle.fm_base.specs.declared.formula.Formula.{Formula}
use Rattle.fm_nnf.specs.Lifting.{Lifted, lifted}
use Rattle.fm_nnf.specs.Plain.{is_plain}

-- the signature with further symbols behind its own
abbrev pub with_ranks : Sig → List Rank → Sig
with_ranks sig ranks = record { sorts = sig.sorts; ranks = sig.ranks ++ ranks }

abbrev pub AllHold : Reading → List Formula → Type 0
AllHold m [] = Unit {0}
AllHold m (d ∷ ds) = (truth d m [] ≡ true) × AllHold m ds

-- closed, well sorted and without term `ite`
abbrev pub AreReady : Sig → List Formula → Type 0
AreReady sig [] = Unit {0}
AreReady sig (d ∷ ds) = (is_closed d sig ≡ true) × (is_plain d ≡ true) × AreReady sig ds

-- an expansion by new symbols, of the same sizes, makes the lifted formula and all definitions true
pub record ExpandsToLifted (m : Reading) (sig : Sig) (l : Lifted Formula) : Type 0 where
  pub expansion : Expansion m.size m.at (length sig.ranks) l.ranks
  pub holds : truth l.made (with_symbols m.size expansion.at) [] ≡ true
  pub defined : AllHold (with_symbols m.size expansion.at) l.definitions

-- an interpretation of the signature, and of any further symbols behind its own, makes a formula over the signature true
-- exactly where it expands to one that makes the lifted formula and all definitions true, where the new symbols are
-- numbered on from all of those
abbrev pub LiftingSaysTheSame : Type 0
LiftingSaysTheSame = (sig : Sig) (more : List Rank) (f : Formula) (m : Reading) → is_closed f sig ≡ true → let big = with_ranks sig more in IsInterpretation big m →
    (truth f m [] ≡ true) ↔ ExpandsToLifted m big (lifted sig f (length big.ranks))

-- what is lifted, and each definition, is closed and has no term `ite`, over the signature with the new symbols
abbrev pub LiftingIsReady : Type 0
LiftingIsReady = (sig : Sig) (more : List Rank) (f : Formula) → is_closed f sig ≡ true → let big = with_ranks sig more in let l = lifted sig f (length big.ranks) in
    AreReady (with_ranks big l.ranks) (l.made ∷ l.definitions)
