-- What is added behind what was there.
use Rattle.std.specs.Prelude.{◌≡◌, ℕ, ◌+◌, List, ◌++◌, Vec, length}
use Rattle.std.specs.declared.alloc.Global.{Global}
use Rattle.fm_base.specs.declared.ids.SortId.{SortId}
use Rattle.fm_base.specs.declared.signature.Rank.{Rank}
use Rattle.fm_base.specs.declared.formula.Nnf.{Nnf}
use Rattle.fm_base.specs.declared.formula.Nnf.TheOpen.{Nnf-F}
use Rattle.fm_base.specs.declared.formula.Nnf.TheFolds.{fold-Nnf}
use Rattle.fm_bank.specs.declared.clause.Clause.{Clause}
use Rattle.fm_bank.specs.declared.clause.Plit.{Plit}
use Rattle.fm_nnf.specs.NormalSize.{total}
use Rattle.fm_clauses.specs.Table.{Made, Part, behind, heads, proxy_ranks}

-- literals and ranks, of the parts of an Or
pub record AddsHeads (parts : List Part) (scope : List SortId) (first : ℕ) (lits : List Plit) (ranks : List Rank) (lits' : List Plit) (ranks' : List Rank) : Type 0 where
  pub literals : lits' ≡ lits ++ heads parts scope (first + length ranks)
  pub proxies : ranks' ≡ ranks ++ proxy_ranks parts scope

-- clauses and ranks, where `made` is told from which symbol it numbers
pub record Adds (made : ℕ → Made) (first : ℕ) (clauses : List Clause) (ranks : List Rank) (clauses' : List Clause) (ranks' : List Rank) : Type 0 where
  pub made_clauses : clauses' ≡ clauses ++ (made (first + length ranks)).0
  pub made_ranks : ranks' ≡ ranks ++ (made (first + length ranks)).1

-- the clauses of what the proxies from `symbol` on stand for, and the symbol after these proxies
pub record AddsBehind (parts : List Part) (scope : List SortId) (symbol first : ℕ) (clauses : List Clause) (ranks : List Rank) (clauses' : List Clause) (ranks' : List Rank) (next : ℕ) : Type 0 where
  pub adds : Adds (behind parts scope symbol) first clauses ranks clauses' ranks'
  pub after : next ≡ symbol + length (proxy_ranks parts scope)

-- the same of the lists that hold them
abbrev pub AddsIn : (ℕ → Made) → ℕ → Vec Clause Global → Vec Rank Global → Vec Clause Global → Vec Rank Global → Type 0
AddsIn made first clauses ranks clauses' ranks' = Adds made first clauses.items ranks.items clauses'.items ranks'.items

abbrev pub AddsHeadsIn : List Part → List SortId → ℕ → Vec Plit Global → Vec Rank Global → Vec Plit Global → Vec Rank Global → Type 0
AddsHeadsIn parts scope first lits ranks lits' ranks' = AddsHeads parts scope first lits.items ranks.items lits'.items ranks'.items

abbrev pub AddsBehindIn : List Part → List SortId → ℕ → ℕ → Vec Clause Global → Vec Rank Global → Vec Clause Global → Vec Rank Global → ℕ → Type 0
AddsBehindIn parts scope symbol first clauses ranks clauses' ranks' next =
    AddsBehind parts scope symbol first clauses.items ranks.items clauses'.items ranks'.items next

abbrev pub weight_step : Nnf-F ℕ → ℕ
weight_step (Nnf-F.Lit positive a) = 1
weight_step (Nnf-F.And fs) = 6 + total fs
weight_step (Nnf-F.Or fs) = 6 + total fs
weight_step (Nnf-F.All vars body) = 4 + body

abbrev pub weight : Nnf → ℕ
weight = fold-Nnf ℕ weight_step
