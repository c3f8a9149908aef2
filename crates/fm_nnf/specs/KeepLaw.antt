-- What expansions keep, so that they can be made one after another: each interprets the signature with its symbols, and what
-- speaks of the symbols before it alone is as true as it was.
use Rattle.std.specs.Prelude.{◌≡◌, ℕ, true, List, [], length}
use Rattle.fm_base.specs.Expansions.{Agree, Expansion, Symbols, with_symbols}
use Rattle.fm_base.specs.Interpretations.{Reading, IsInterpretation}
use Rattle.fm_base.specs.Truth.{truth, is_closed}
use Rattle.fm_base.specs.declared.signature.Rank.{Rank}
use Rattle.fm_base.specs.declared.signature.Sig.{Sig}
use Rattle.fm_base.specs.declared.formula.Formula.{Formula}
use Rattle.fm_base.specs.declared.formula.Nnf.{Nnf}
use Rattle.fm_nnf.specs.LiftLaw.{with_ranks}
use Rattle.fm_nnf.specs.NormalTruth.{nnf_true, is_within}

abbrev pub ExpansionsInterpret : Type 0
ExpansionsInterpret = (sig : Sig) (ranks : List Rank) (m : Reading) → IsInterpretation sig m → (e : Expansion m.size m.at (length sig.ranks) ranks) →
    IsInterpretation (with_ranks sig ranks) (with_symbols m.size e.at)

abbrev pub FormulasKeepTruth : Type 0
FormulasKeepTruth = (sig : Sig) (f : Formula) (m : Reading) (at : Symbols) → is_closed f sig ≡ true → Agree (length sig.ranks) m.at at →
    truth f (with_symbols m.size at) [] ≡ truth f m []

abbrev pub NormalFormsKeepTruth : Type 0
NormalFormsKeepTruth = (bound sorts : ℕ) (f : Nnf) (m : Reading) (at : Symbols) → is_within bound sorts f ≡ true → Agree bound m.at at →
    nnf_true f (with_symbols m.size at) [] ≡ nnf_true f m []
