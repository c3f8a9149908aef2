-- The endings of blocks, by what is in force and by the clauses of the lines.
use Rattle.std.specs.Prelude.{◌≡◌, ℕ, ◌+◌, List, [], ◌∷◌, Option, Some, None}
use Rattle.fm_base.specs.Interpretations.{reading_of}
use Rattle.fm_base.specs.Models.{IsModel, sum_of_sizes}
use Rattle.fm_base.specs.declared.formula.Formula.{Formula}
use Rattle.fm_base.specs.declared.interp.Interp.{Interp}
use Rattle.fm_base.specs.declared.signature.Sig.{Sig}
use Rattle.fm_bank.specs.declared.clause.Clause.{Clause as FirstOrderClause}
use Rattle.fm_cert.specs.Claims.{IsGoodEnding, ShowsLeast}
use Rattle.fm_cert.specs.Lines.{Clause}
use Rattle.fm_cert.specs.declared.block.Claim.{Claim}
use Rattle.fm_blocks.specs.Faults.{IsEndingFault, bad_behind, fault_at}
use Rattle.fm_blocks.specs.declared.verdict.Fault.{Fault}
use Rattle.fm_blocks.specs.declared.verdict.Rule.{Rule}

abbrev pub sum_of : List ℕ → ℕ
sum_of [] = 0
sum_of (k ∷ ks) = k + sum_of ks

-- the interpretation is a model of the assertions, and its sizes add up to the sum
abbrev pub IsModelOfSum : Sig → List Formula → ℕ → Interp → Type 0
IsModelOfSum sig assertions sum model = IsModel sig assertions (reading_of model) × (sum_of_sizes sig (reading_of model) ≡ sum)

-- An ending is good or at fault by the signature and the assertions alone, whatever their table.
abbrev pub EndsWell : Sig → List Formula → List Clause → Claim → Type 0
EndsWell sig assertions clauses claim = (symbols : Sig) (table : List FirstOrderClause) → IsGoodEnding (record { sig = sig; assertions = assertions; symbols = symbols; clauses = table }) clauses claim

abbrev pub EndsBadly : Sig → List Formula → List Clause → ℕ → Claim → Fault → Type 0
EndsBadly sig assertions clauses at claim fault = (symbols : Sig) (table : List FirstOrderClause) → IsEndingFault (record { sig = sig; assertions = assertions; symbols = symbols; clauses = table }) clauses at claim (bad_behind (record { sig = sig; assertions = assertions; symbols = symbols; clauses = table }) at claim) fault

-- an ending `q sat` at the line `at` that isn't good: a bad line of its model, or else no clause that shows the sum to be the
-- least, or no model of that sum
abbrev pub IsSatFault : Sig → List Formula → List Clause → ℕ → Interp → ℕ → Option ℕ → Fault → Type 0
IsSatFault sig assertions clauses sum model at (Some line) fault = fault ≡ fault_at line Rule.M
IsSatFault sig assertions clauses sum model at None fault = (ShowsLeast clauses sum → IsModelOfSum sig assertions sum model → ⊥) × (fault ≡ fault_at at Rule.Q)
