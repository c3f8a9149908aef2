-- What clauses say: the normal form, and the assertions, over the expansions by the symbols that were made.
use Rattle.std.specs.Prelude.{◌≡◌, ℕ, ◌<◌, true, ◌↔◌, List, [], ◌++◌, length}
use Rattle.std.specs.List.{All}
use Rattle.fm_base.specs.Expansions.{Agree, Expansion, Symbols, with_symbols}
use Rattle.fm_base.specs.Interpretations.{Reading, IsInterpretation}
use Rattle.fm_base.specs.Models.{IsModel}
use Rattle.fm_base.specs.Truth.{is_closed}
use Rattle.fm_base.specs.declared.signature.Sig.{Sig}
use Rattle.fm_base.specs.declared.formula.Formula.{Formula}
use Rattle.fm_base.specs.declared.formula.Nnf.{Nnf}
use Rattle.fm_bank.specs.Clauses.{Satisfies}
use Rattle.fm_bank.specs.declared.clause.ClauseSet.{ClauseSet}
use Rattle.fm_nnf.specs.NormalTruth.{nnf_true, is_within}
use Rattle.fm_clauses.specs.Assertions.{assertions_made, clause_table, fresh_constants, has_ground}
use Rattle.fm_clauses.specs.Table.{Made, clauses_of_normal}

-- an expansion by new symbols, of the same sizes, satisfies the clauses
pub record ExpandsToClauses (m : Reading) (next : ℕ) (made : Made) : Type 0 where
  pub expansion : Expansion m.size m.at next made.1
  pub satisfies : Satisfies (with_symbols m.size expansion.at) made.0

-- an interpretation makes a normal form true exactly where it expands, by the proxies, to one that satisfies the clauses
abbrev pub ClausesSayTheSame : Type 0
ClausesSayTheSame = (f : Nnf) (next sorts : ℕ) (m : Reading) → is_within next sorts f ≡ true → ((s : ℕ) → s < sorts → 0 < m.size s) →
    (nnf_true f m [] ≡ true) ↔ ExpandsToClauses m next (clauses_of_normal f next)

-- each assertion is closed and well sorted
abbrev pub AreClosed : Sig → List Formula → Type 0
AreClosed sig assertions = All (λ f. is_closed f sig ≡ true) assertions

-- an interpretation of the table's symbols, of the same sizes, that has the declared functions as they are and satisfies all
-- clauses
pub record ExpandsToTable (sig : Sig) (table : ClauseSet) (m : Reading) : Type 0 where
  pub at : Symbols
  pub agrees : Agree (length sig.ranks) m.at at
  pub interprets : IsInterpretation table.sig (with_symbols m.size at)
  pub satisfies : Satisfies (with_symbols m.size at) table.clauses

-- an interpretation is a model of the assertions exactly where it has an expansion of the same sizes that satisfies all clauses
abbrev pub ModelsAreExpansions : Type 0
ModelsAreExpansions = (sig : Sig) (assertions : List Formula) (m : Reading) → AreClosed sig assertions → IsInterpretation sig m →
    IsModel sig assertions m ↔ ExpandsToTable sig (clause_table sig assertions) m

-- and so each model gives an interpretation of the table's symbols, of the same sizes, that satisfies all clauses
abbrev pub ModelsExpand : Type 0
ModelsExpand = (sig : Sig) (assertions : List Formula) (m : Reading) → AreClosed sig assertions → IsModel sig assertions m →
    ExpandsToTable sig (clause_table sig assertions) m

-- the table has the sorts of the signature; its symbols are the declared functions, those made, and the fresh constants, and
-- `user` counts the first of these
pub record HasShape (sig : Sig) (assertions : List Formula) (made : Made) (table : ClauseSet) : Type 0 where
  pub sorts : table.sig.sorts ≡ sig.sorts
  pub symbols : table.sig.ranks ≡ (sig.ranks ++ made.1) ++ fresh_constants sig.sorts (has_ground (record { sorts = sig.sorts; ranks = sig.ranks ++ made.1 }) made.0)
  pub user : table.user ≡ length sig.ranks
  pub clauses : table.clauses ≡ made.0

abbrev pub TablesHaveShape : Type 0
TablesHaveShape = (sig : Sig) (assertions : List Formula) → HasShape sig assertions (assertions_made sig assertions (length sig.ranks)) (clause_table sig assertions)
