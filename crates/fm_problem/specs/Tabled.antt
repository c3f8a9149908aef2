-- Assertions over a signature with their clause table, as what is in force at a `check-sat`.
use Rattle.std.specs.Prelude.{◌≡◌, true, List}
use Rattle.std.specs.List.{All}
use Rattle.fm_base.specs.Truth.{is_closed}
use Rattle.fm_base.specs.declared.formula.Formula.{Formula}
use Rattle.fm_base.specs.declared.signature.Sig.{Sig}
use Rattle.fm_bank.specs.declared.clause.ClauseSet.{ClauseSet}
use Rattle.fm_cert.specs.Claims.{HasTable}
use Rattle.fm_cert.specs.Lines.{Problem}
use Rattle.fm_clauses.specs.Assertions.{clause_table}

abbrev pub with_table : Sig → List Formula → ClauseSet → Problem
with_table sig assertions table = record { sig = sig; assertions = assertions; symbols = table.sig; clauses = table.clauses }

abbrev pub tabled : Sig → List Formula → Problem
tabled sig assertions = with_table sig assertions (clause_table sig assertions)

-- the table of closed assertions says no more than they do
abbrev pub ClosedHaveTables : Type 0
ClosedHaveTables = (sig : Sig) (assertions : List Formula) → All (λ f. is_closed f sig ≡ true) assertions → HasTable (tabled sig assertions)
