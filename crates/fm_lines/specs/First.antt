-- The lines of the start, clause by clause.
use Rattle.std.specs.Prelude.{ℕ, ◌==◌, if◌then◌else◌, List, [], ◌∷◌, length}
use Rattle.fm_bank.specs.declared.clause.Clause.{Clause}
use Rattle.fm_cert.specs.declared.block.Line.{Line}

-- a clause without variables is an instance of itself
abbrev pub ground_line : ℕ → Clause → List Line
ground_line n k = if length k.vars == 0 then Line.Instance n [] ∷ [] else []
