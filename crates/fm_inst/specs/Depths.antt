-- How many variables a literal needs: those up to its last one.
use Rattle.std.specs.Prelude.{length, ℕ, ◌+◌, ◌==◌, ◌&&◌, ◌≤◌, max, Bool, List, [], ◌∷◌, map}
use Rattle.std.specs.List.{list_any}
use Rattle.fm_base.specs.Interpretations.{Reading}
use Rattle.fm_base.specs.declared.formula.Patom.{Patom}
use Rattle.fm_base.specs.declared.formula.Pterm.{Pterm}
use Rattle.fm_base.specs.declared.formula.Pterm.TheOpen.{Pterm-F}
use Rattle.fm_base.specs.declared.formula.Pterm.TheFolds.{fold-Pterm}
use Rattle.fm_bank.specs.Clauses.{plit_true}
use Rattle.fm_bank.specs.declared.clause.Clause.{Clause}
use Rattle.fm_bank.specs.declared.clause.Plit.{Plit}
use Rattle.fm_rounds.specs.Failing.{sizes_of}
use Rattle.fm_inst.specs.Levels.{AreLinked}
use Rattle.fm_inst.specs.Prefixes.{AreSome}

abbrev pub largest : List ℕ → ℕ
largest [] = 0
largest (n ∷ ns) = max n (largest ns)

abbrev pub depth_step : Pterm-F ℕ → ℕ
depth_step (Pterm-F.Var v) = v + 1
depth_step (Pterm-F.App f ts) = largest ts

abbrev pub depth_of : Pterm → ℕ
depth_of = fold-Pterm ℕ depth_step

abbrev pub atom_depth : Patom → ℕ
atom_depth (Patom.Pred p ts) = largest (map depth_of ts)
atom_depth (Patom.Equal a b) = max (depth_of a) (depth_of b)

abbrev pub literal_depth : Plit → ℕ
literal_depth l = atom_depth l.atom

-- some literal that needs just so many variables is true
abbrev pub level_true : Reading → List Plit → ℕ → List ℕ → Bool
level_true m lits depth env = list_any (λ (l : Plit). (literal_depth l == depth) && plit_true m env l) lits

-- the literals need at most so many
abbrev pub IsWithin : List Plit → ℕ → Type 0
IsWithin [] n = Unit {0}
IsWithin (l ∷ ls) n = (literal_depth l ≤ n) × IsWithin ls n

-- each sort of the clause's variables has an element, and its literals have no other variables
abbrev pub IsReady : Reading → Clause → Type 0
IsReady m clause = AreSome (sizes_of m clause.vars) × IsWithin clause.lits (length clause.vars)

abbrev pub AreReady : Reading → List Clause → Type 0
AreReady m [] = Unit {0}
AreReady m (c ∷ cs) = IsReady m c × AreReady m cs

-- the literals are linked by their depths, which are at most `count`
abbrev pub AreLevels : List Plit → ℕ → List ℕ → List ℕ → Type 0
AreLevels lits count first next = AreLinked (map literal_depth lits) count 0 first next

-- the same where this depth is one of them
pub record HasLevel (lits : List Plit) (depth : ℕ) (first next : List ℕ) : Type 0 where
  pub count : ℕ
  pub within : depth ≤ count
  pub linked : AreLevels lits count first next
