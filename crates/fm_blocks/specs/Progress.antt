-- A certificate that is checked block by block, each block for the next problem.
use Rattle.std.specs.Prelude.{◌≡◌, ◌≢◌, ◌⊎◌, ℕ, List, [], ◌∷◌, ◌++◌, length}
use Rattle.fm_cert.specs.Blockwise.{IsAt, IsCertificate, Left}
use Rattle.fm_cert.specs.Claims.{AreGoodFrom, IsGoodBlock}
use Rattle.fm_cert.specs.Lines.{Problem}
use Rattle.fm_cert.specs.declared.block.Block.{Block}
use Rattle.fm_cert.specs.declared.block.Claim.{Claim}
use Rattle.fm_blocks.specs.Faults.{IsBlockFault, IsFirstFault, IsGoodText, fault_at}
use Rattle.fm_blocks.specs.declared.progress.Step.{Step}
use Rattle.fm_blocks.specs.declared.verdict.Fault.{Fault}
use Rattle.fm_blocks.specs.declared.verdict.Rule.{Rule}

-- a block was read for each of these problems, and is good for it
pub record HasChecked (text : List ℕ) (problems : List Problem) (blocks : List Block) (left : Left) : Type 0 where
  pub at : IsAt text blocks left
  pub count : length blocks ≡ length problems
  pub good : AreGoodFrom 0 problems blocks

-- wherever the reader stands behind so many blocks, the next block is good for the next problem, and claims this
abbrev pub IsNextGood : Problem → Left → ℕ → Claim → Left → Type 0
IsNextGood p old number claim new =
    (text : List ℕ) (problems : List Problem) (blocks : List Block) → HasChecked text problems blocks old → number ≡ length blocks
    → (block : Block) × (block.claim ≡ claim) × HasChecked text (problems ++ p ∷ []) (blocks ++ block ∷ []) new

-- wherever the reader stands behind so many blocks, this is the first fault, whatever problems come behind the next one
abbrev pub IsNextFault : Problem → Left → ℕ → Fault → Type 0
IsNextFault p left number fault =
    (text : List ℕ) (problems : List Problem) (blocks : List Block) → IsCertificate text → HasChecked text problems blocks left → number ≡ length blocks
    → (more : List Problem) → IsFirstFault (problems ++ p ∷ more) text fault

-- nothing is left: the certificate is good, whatever problems come
abbrev pub IsAllGood : Left → Type 0
IsAllGood left =
    (text : List ℕ) (problems : List Problem) (blocks : List Block) → HasChecked text problems blocks left
    → (more : List Problem) → IsGoodText (problems ++ more) text blocks

-- a block is left, and no problem
abbrev pub IsLeftOver : Left → Fault → Type 0
IsLeftOver left fault =
    (text : List ℕ) (problems : List Problem) (blocks : List Block) → IsCertificate text → HasChecked text problems blocks left
    → IsFirstFault problems text fault

-- the reader is one of some text
abbrev pub IsReading : Left → Type 0
IsReading left = (text : List ℕ) × (blocks : List Block) × IsAt text blocks left

abbrev pub bad_step : ℕ → Rule → Step
bad_step line rule = Step.Bad (fault_at line rule)

-- what is found of a block whose line `b` is the line `at`, where this number is due
abbrev pub FoundIs : Problem → ℕ → ℕ → Block → Step → Type 0
FoundIs p number at block (Step.Good claim) = (block.claim ≡ claim) × (block.number ≡ number) × IsGoodBlock p block
FoundIs p number at block (Step.Bad fault) = ((block.number ≢ number) × (fault ≡ fault_at at Rule.B)) ⊎ ((block.number ≡ number) × IsBlockFault p at block fault)
FoundIs p number at block Step.End = ⊥

-- what a step says, from one place of the reader to the next
abbrev pub StepIs : Problem → Left → ℕ → Step → Left → Type 0
StepIs p old number (Step.Good claim) new = IsNextGood p old number claim new
StepIs p old number (Step.Bad fault) new = IsNextFault p old number fault
StepIs p old number Step.End new = IsAllGood old
