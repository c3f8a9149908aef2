-- The block that answers a `check-sat` of thin assertions. Without `false` among them each sort has one element and each
-- function the value 0 everywhere, and the lines show that no sum lies below the number of the sorts. Else the clause
-- without literals refutes the assertions.
use Rattle.std.specs.Prelude.{ℕ, zero, suc, ◌+◌, List, [], ◌∷◌, ◌++◌, replicate, Option, Some, None}
use Rattle.fm_base.specs.declared.interp.Interp.{Interp}
use Rattle.fm_base.specs.declared.interp.Table.{Table}
use Rattle.fm_cert.specs.Lines.{at_most}
use Rattle.fm_cert.specs.declared.block.Block.{Block}
use Rattle.fm_bank.specs.declared.literal.Literal.{Literal}
use Rattle.fm_cert.specs.declared.block.Claim.{Claim}
use Rattle.fm_cert.specs.declared.block.Line.{Line}

abbrev pub zero_table : Table
zero_table = record { default = 0; except = [] }

abbrev pub one_element_model : ℕ → ℕ → Interp
one_element_model sorts symbols = record { sizes = replicate sorts 1; tables = replicate symbols zero_table }

-- a line `o z` for each of n sorts from s on
unfoldable pub orders : ℕ → ℕ → List Line
orders s zero = []
orders s (suc n) = Line.OrderZero (record { 0 = s }) ∷ orders (s + 1) n

-- a step for each of n sorts from s on: that it has at most 0 elements, with the clause of its line `o z`
unfoldable pub zero_steps : ℕ → ℕ → List (Literal × ℕ)
zero_steps s zero = []
zero_steps s (suc n) = (at_most s 0, s + 1) ∷ zero_steps (s + 1) n

abbrev pub lines_of : ℕ → List Line
lines_of zero = []
lines_of (suc n) = Line.Sum n (replicate (suc n) 0) ∷ (orders 0 (suc n) ++ Line.Resolution 0 (zero_steps 0 (suc n)) ∷ [])

abbrev pub block_of : ℕ → ℕ → ℕ → Block
block_of number sorts symbols = record { number = number; lines = lines_of sorts; claim = Claim.Sat sorts (one_element_model sorts symbols) }

-- the block where the clause of this number has no literals
abbrev pub refuting_block : ℕ → ℕ → Block
refuting_block number clause = record { number = number; lines = Line.Instance clause [] ∷ []; claim = Claim.Unsat }

-- the block after so many answers, by what stands declared and by the clause without literals, if there is one
abbrev pub answering_block : ℕ → ℕ → ℕ → Option ℕ → Block
answering_block number sorts symbols None = block_of number sorts symbols
answering_block number sorts symbols (Some clause) = refuting_block number clause

-- it is one way or the other
abbrev pub IsDecided : Claim → Type 0
IsDecided Claim.Unsat = Unit {0}
IsDecided (Claim.Sat sum model) = Unit {0}
IsDecided (Claim.Unknown instances decisions) = ⊥
