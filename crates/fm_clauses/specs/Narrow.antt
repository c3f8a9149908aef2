-- A clause made of literals under the variables in scope: its variables are those of the scope that occur, in order of
-- binding.
use Rattle.std.specs.Prelude.{ℕ, ◌==◌, ◌||◌, List, map}
use Rattle.std.specs.List.{list_any}
use Rattle.fm_base.specs.declared.ids.SortId.{SortId}
use Rattle.fm_base.specs.declared.formula.Patom.{Patom}
use Rattle.fm_base.specs.declared.formula.Pterm
use Rattle.fm_base.specs.declared.formula.Pterm.{Pterm}
use Rattle.fm_base.specs.declared.formula.Pterm.TheOpen.{Pterm-F}
use Rattle.fm_base.specs.declared.formula.Pterm.TheFolds.{fold-Pterm}
use Rattle.fm_bank.specs.declared.clause.Clause.{Clause}
use Rattle.fm_bank.specs.declared.clause.Plit.{Plit}
use Rattle.fm_nnf.specs.Places.{Occurs, kept, place}

-- some of these has the variable
abbrev pub any_of : {X : Type 0} → (X → Occurs) → List X → Occurs
any_of has xs k = list_any (λ x. has x k) xs

abbrev pub occurs_step : Pterm-F Occurs → Occurs
occurs_step (Pterm-F.Var v) k = v == k
occurs_step (Pterm-F.App f ts) k = list_any (λ (t : Occurs). t k) ts

-- which variables stand in a term
abbrev pub occurs_in_term : Pterm → Occurs
occurs_in_term = fold-Pterm Occurs occurs_step

abbrev pub occurs_in_atom : Patom → Occurs
occurs_in_atom (Patom.Pred p ts) k = any_of occurs_in_term ts k
occurs_in_atom (Patom.Equal a b) k = occurs_in_term a k || occurs_in_term b k

-- the variable k occurs in some literal
abbrev pub occurs : List Plit → Occurs
occurs lits k = any_of (λ (l : Plit). occurs_in_atom l.atom) lits k

abbrev pub Renamed : Type 0
Renamed = (ℕ → ℕ) → Pterm

abbrev pub renamed_step : Pterm-F Renamed → Renamed
renamed_step (Pterm-F.Var v) g = Pterm.Var (g v)
renamed_step (Pterm-F.App f ts) g = Pterm.App f (map (λ (t : Renamed). t g) ts)

-- a term with its variables renumbered
abbrev pub renamed : Pterm → Renamed
renamed = fold-Pterm Renamed renamed_step

abbrev pub all_renamed : List Pterm → (ℕ → ℕ) → List Pterm
all_renamed ts g = map (λ (t : Pterm). renamed t g) ts

abbrev pub renamed_atom : (ℕ → ℕ) → Patom → Patom
renamed_atom g (Patom.Pred p ts) = Patom.Pred p (all_renamed ts g)
renamed_atom g (Patom.Equal a b) = Patom.Equal (renamed a g) (renamed b g)

abbrev pub renamed_literal : (ℕ → ℕ) → Plit → Plit
renamed_literal g l = record { positive = l.positive; atom = renamed_atom g l.atom }

-- the variable i of the clause is the i-th that occurs
abbrev pub clause_of : List SortId → List Plit → Clause
clause_of scope lits = record { vars = kept (occurs lits) scope; lits = map (renamed_literal (place (occurs lits))) lits }
