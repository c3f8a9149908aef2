-- Which variables in scope stand in what is lifted, as marks, and the numbers that they get.
use Rattle.std.specs.Prelude.{◌≡◌, ℕ, ◌+◌, ◌-◌, Bool, true, false, ◌||◌, get_or, List, [], ◌∷◌}
use Rattle.fm_base.specs.declared.ids.SortId.{SortId}
use Rattle.fm_base.specs.declared.signature.Rank.{Rank}
use Rattle.fm_base.specs.declared.signature.Ty.{Ty}
use Rattle.fm_base.specs.declared.formula.Formula.{Formula}
use Rattle.fm_nnf.specs.Lifting.{Parts, closed_over, is_choice, own_term, parts_renamed, rank_over}
use Rattle.fm_nnf.specs.Places.{Occurs, kept}

-- what isn't in scope stays
abbrev pub marked : List Bool → Occurs
marked marks k = get_or marks k true

-- what has variables, and those that were marked
abbrev pub Marks : Occurs → List Bool → List Bool → Type 0
Marks has old new = (k : ℕ) → marked new k ≡ (has k || marked old k)

-- the new number of each variable in scope, where n is that of the first that stays
abbrev pub numbers_from : ℕ → List Bool → List ℕ
numbers_from n [] = []
numbers_from n (true ∷ marks) = n ∷ numbers_from (n + 1) marks
numbers_from n (false ∷ marks) = n ∷ numbers_from n marks

abbrev pub dropped_of : List Bool → ℕ
dropped_of [] = 0
dropped_of (true ∷ marks) = dropped_of marks
dropped_of (false ∷ marks) = 1 + dropped_of marks

-- variables bound inside keep their order behind those that stay
abbrev pub new_number : List ℕ → ℕ → ℕ → ℕ
new_number numbers dropped v = get_or numbers v (v - dropped)

abbrev pub parts_by : List Bool → Parts → Parts
parts_by marks parts = parts_renamed parts (new_number (numbers_from 0 marks) (dropped_of marks))

-- the definition of the symbol of this number, and its rank
abbrev pub definition_by : List Bool → Parts → List SortId → ℕ → Formula
definition_by marks parts scope symbol =
    let vars = kept (marked marks) scope in
    closed_over vars (is_choice (own_term symbol vars) (parts_by marks parts))

abbrev pub rank_by : List Bool → List SortId → Ty → Rank
rank_by marks scope type = rank_over (kept (marked marks) scope) type
