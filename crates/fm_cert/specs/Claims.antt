-- What a block claims of the assertions in force, and what makes it good for them.
use Rattle.std.specs.Prelude.{◌≡◌, ℕ, zero, suc, ◌+◌, ◌≤◌, true, List, [], ◌∷◌, slice_get, Some}
use Rattle.fm_base.specs.Interpretations.{Reading, IsInterpretation, reading_of, is_fit}
use Rattle.fm_base.specs.Models.{IsModel, sum_of_sizes}
use Rattle.fm_bank.specs.Clauses.{Satisfies}
use Rattle.fm_bank.specs.Meaning.{literals_true}
use Rattle.fm_cert.specs.Lines.{Clause, Problem, Made, SameSet, nothing, AreGoodLines, above}
use Rattle.fm_cert.specs.declared.block.Line.{Line}
use Rattle.fm_cert.specs.declared.block.Block.{Block}
use Rattle.fm_cert.specs.declared.block.Claim.{Claim}

-- with other values of the symbols and the same sizes it is an interpretation of the table's symbols that satisfies every
-- clause
abbrev pub HasClauseModel : Problem → Reading → Type 0
HasClauseModel p m = (at : ℕ → List ℕ → ℕ) × IsInterpretation p.symbols (record { size = m.size; at = at }) × Satisfies (record { size = m.size; at = at }) p.clauses

-- The clause table says no more than the assertions: each model of them has such an interpretation.
pub record HasTable (p : Problem) : Type 0 where
  pub sorts : p.symbols.sorts ≡ p.sig.sorts
  pub expands : (m : Reading) → IsModel p.sig p.assertions m → HasClauseModel p m

-- a line's clause is the one literal "the sizes add up to more than n - 1"; below a sum of 0 there is nothing
abbrev pub ShowsLeast : List Clause → ℕ → Type 0
ShowsLeast clauses zero = Unit {0}
ShowsLeast clauses (suc n) = (i : ℕ) × (clause : Clause) × (slice_get clauses i ≡ Some clause) × SameSet clause (above n ∷ [])

-- the ending is good after the clauses of the block's lines
abbrev pub IsGoodEnding : Problem → List Clause → Claim → Type 0
IsGoodEnding p clauses Claim.Unsat = (i : ℕ) × (slice_get clauses i ≡ Some [])
IsGoodEnding p clauses (Claim.Sat sum model) = ShowsLeast clauses sum × (is_fit p.sig model ≡ true) × IsModel p.sig p.assertions (reading_of model) × (sum_of_sizes p.sig (reading_of model) ≡ sum)
IsGoodEnding p clauses (Claim.Unknown instances decisions) = Unit {0}

pub record IsGoodBlock (p : Problem) (block : Block) : Type 0 where
  pub made : Made
  pub lines : AreGoodLines p nothing block.lines made
  pub ending : IsGoodEnding p made.clauses block.claim

-- the claim of an ending: no model at all; a model of this sum, and none of a smaller; or nothing
abbrev pub ClaimHolds : Problem → Claim → Type 0
ClaimHolds p Claim.Unsat = (m : Reading) → IsModel p.sig p.assertions m → ⊥
ClaimHolds p (Claim.Sat sum model) = IsModel p.sig p.assertions (reading_of model) × (sum_of_sizes p.sig (reading_of model) ≡ sum) × ((m : Reading) → IsModel p.sig p.assertions m → sum ≤ sum_of_sizes p.sig m)
ClaimHolds p (Claim.Unknown instances decisions) = Unit {0}

-- the blocks are numbered from k on, and each is good for the problem of its number
abbrev pub AreGoodFrom : ℕ → List Problem → List Block → Type 0
AreGoodFrom k ps [] = Unit {0}
AreGoodFrom k [] (b ∷ bs) = ⊥
AreGoodFrom k (p ∷ ps) (b ∷ bs) = (b.number ≡ k) × IsGoodBlock p b × AreGoodFrom (k + 1) ps bs

-- a good certificate for the problems of a script's `check-sat` commands, in order
abbrev pub IsGoodCertificate : List Problem → List Block → Type 0
IsGoodCertificate problems blocks = AreGoodFrom 0 problems blocks

-- a good block's claim holds, where the table says what the assertions say
abbrev pub BlocksAreSound : Type 0
BlocksAreSound = (p : Problem) (block : Block) → HasTable p → IsGoodBlock p block → ClaimHolds p block.claim

-- every clause of good lines holds in every interpretation of the table's symbols that satisfies its clauses, each term
-- having its value there
abbrev pub GoodLinesHold : Type 0
GoodLinesHold =
    (p : Problem) (m : Reading) (lines : List Line) (made : Made) (i : ℕ) (clause : Clause) → IsInterpretation p.symbols m → Satisfies m p.clauses
    → AreGoodLines p nothing lines made → slice_get made.clauses i ≡ Some clause → literals_true p.symbols m made.terms clause ≡ true
