-- What a normal form says: the formula, over the expansions by the Skolem functions (Skolem's normal form).
use Rattle.std.specs.Prelude.{◌≡◌, ℕ, ◌+◌, ◌≤◌, true, ◌↔◌, [], List, length}
use Rattle.fm_base.specs.Expansions.{Expansion, with_symbols}
use Rattle.fm_base.specs.Interpretations.{Reading, IsInterpretation}
use Rattle.fm_base.specs.Truth.{truth, is_closed}
use Rattle.fm_base.specs.declared.signature.Rank.{Rank}
use Rattle.fm_base.specs.declared.signature.Sig.{Sig}
use Rattle.fm_base.specs.declared.formula.Formula.{Formula}
use Rattle.fm_base.specs.declared.formula.Nnf.{Nnf}
use Rattle.fm_nnf.specs.NormalForm.{normal}
use Rattle.fm_nnf.specs.NormalTruth.{nnf_true, is_within}
use Rattle.fm_nnf.specs.Plain.{is_plain}

-- closed, well sorted and without term `ite`, where new symbols come after those of the signature
pub record IsPlainOver (sig : Sig) (f : Formula) (next : ℕ) : Type 0 where
  pub closed : is_closed f sig ≡ true
  pub plain : is_plain f ≡ true
  pub after : length sig.ranks ≤ next

-- an expansion by new symbols, of the same sizes, makes the normal form true
pub record ExpandsTo (m : Reading) (next : ℕ) (made : Nnf × List Rank) : Type 0 where
  pub expansion : Expansion m.size m.at next made.1
  pub holds : nnf_true made.0 (with_symbols m.size expansion.at) [] ≡ true

-- an interpretation makes a formula true exactly where it expands to one that makes the normal form true
abbrev pub NormalFormSaysTheSame : Type 0
NormalFormSaysTheSame = (sig : Sig) (f : Formula) (next : ℕ) (m : Reading) → IsPlainOver sig f next → IsInterpretation sig m →
    (truth f m [] ≡ true) ↔ ExpandsTo m next (normal f next)

-- a normal form has no other symbols than those before it and its own, and quantifies over sorts of the signature
abbrev pub NormalFormIsWithin : Type 0
NormalFormIsWithin = (sig : Sig) (f : Formula) (next : ℕ) → IsPlainOver sig f next →
    is_within (next + length (normal f next).1) sig.sorts (normal f next).0 ≡ true
