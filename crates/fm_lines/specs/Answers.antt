-- The blocks of the two answers that have evidence.
use Rattle.std.specs.Prelude.{ℕ, List, take}
use Rattle.fm_base.specs.declared.interp.Interp.{Interp}
use Rattle.fm_cert.specs.declared.block.Block.{Block}
use Rattle.fm_cert.specs.declared.block.Claim.{Claim}
use Rattle.fm_cert.specs.declared.block.Line.{Line}

-- a first block
abbrev pub block_of : List Line → Claim → Block
block_of lines claim = record { number = 0; lines = lines; claim = claim }

-- an interpretation of the first symbols alone
abbrev pub with_first_tables : ℕ → Interp → Interp
with_first_tables user i = record { sizes = i.sizes; tables = take user i.tables }
