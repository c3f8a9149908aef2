-- The room that an evaluation needs: how many variables are bound at once, and how many values of arguments are kept
-- at once.
use Rattle.std.specs.Prelude.{ℕ, ◌+◌, ◌≤◌, max, List, [], ◌∷◌, length}
use Rattle.fm_base.specs.declared.formula.Formula.{Formula}
use Rattle.fm_base.specs.declared.formula.Fterm.{Fterm}
use Rattle.fm_base.specs.declared.formula.Formula.TheOpen.{Formula-F, Fterm-F}
use Rattle.fm_base.specs.declared.formula.Formula.TheFolds.{fold-Formula, fold-Fterm}

pub record Room : Type 0 where
  pub vars : ℕ
  pub args : ℕ

abbrev pub room : ℕ → ℕ → Room
room vars args = record { vars = vars; args = args }

abbrev pub nothing : Room
nothing = record { vars = 0; args = 0 }

abbrev pub larger : Room → Room → Room
larger a b = record { vars = max a.vars b.vars; args = max a.args b.args }

abbrev pub largest : List Room → Room
largest [] = nothing
largest (r ∷ rs) = larger r (largest rs)

-- the values of the arguments beside the room of one of them
abbrev pub arguments : List Room → Room
arguments rs = record { vars = (largest rs).vars; args = length rs + (largest rs).args }

abbrev pub formula_room : Formula-F Room Room → Room
formula_room (Formula-F.Truth b) = nothing
formula_room (Formula-F.Pred p ts) = arguments ts
formula_room (Formula-F.Equal a b) = larger a b
formula_room (Formula-F.Not a) = a
formula_room (Formula-F.And fs) = largest fs
formula_room (Formula-F.Or fs) = largest fs
formula_room (Formula-F.Iff a b) = larger a b
formula_room (Formula-F.«Formula::Ite» c a b) = larger c (larger a b)
formula_room (Formula-F.Quant all vars body) = record { vars = length vars + body.vars; args = body.args }

abbrev pub term_room : Fterm-F Room Room → Room
term_room (Fterm-F.Var v) = nothing
term_room (Fterm-F.App f ts) = arguments ts
term_room (Fterm-F.«Fterm::Ite» c a b) = larger c (larger a b)

abbrev pub room_of : Formula → Room
room_of = fold-Formula Room Room formula_room term_room

abbrev pub room_of_term : Fterm → Room
room_of_term = fold-Fterm Room Room formula_room term_room

abbrev pub IsWithin : Room → Room → Type 0
IsWithin needed room = (needed.vars ≤ room.vars) × (needed.args ≤ room.args)
