-- The clauses of a normal form, by the structure: an And gives those of its members, a quantifier adds its variables to the
-- scope, an Or gives one clause, in which a proxy predicate stands for each member that is no literal, and then the clauses
-- that say what a true proxy means (Plaisted and Greenbaum).
use Rattle.std.specs.Prelude.{ℕ, zero, ◌+◌, Bool, true, false, ◌||◌, cond, List, [], ◌∷◌, ◌++◌, length, map}
use Rattle.fm_base.specs.declared.ids.SortId.{SortId}
use Rattle.fm_base.specs.declared.signature.Rank.{Rank}
use Rattle.fm_base.specs.declared.signature.Ty.{Ty}
use Rattle.fm_base.specs.declared.formula.Nnf.{Nnf}
use Rattle.fm_base.specs.declared.formula.Nnf.TheOpen.{Nnf-F}
use Rattle.fm_base.specs.declared.formula.Nnf.TheFolds.{fold-Nnf}
use Rattle.fm_base.specs.declared.formula.Patom.{Patom}
use Rattle.fm_bank.specs.declared.clause.Clause.{Clause}
use Rattle.fm_bank.specs.declared.clause.Plit.{Plit}
use Rattle.fm_nnf.specs.NormalForm.{all_variables}
use Rattle.fm_clauses.specs.Narrow.{clause_of}

abbrev pub Made : Type 0
Made = List Clause × List Rank

-- sorts of the variables in scope, literals so far, number of the next symbol: the clauses, and the ranks of new symbols
abbrev pub Maker : Type 0
Maker = List SortId → List Plit → ℕ → Made

-- what a member is to an Or: a literal, an And of nothing, or what a proxy stands for
pub data Part : Type 0 where
  Plain : Plit → Part
  Always : Part
  Other : Maker → Part

-- the clauses, and what the formula is to an Or; an Or is all that its members are
pub record Node : Type 0 where
  pub run : Maker
  pub parts : List Part

abbrev pub nothing : Made
nothing = ([], [])

-- one after the other
abbrev pub run_all : List Node → Maker
run_all [] scope sofar next = nothing
run_all (x ∷ xs) scope sofar next =
    let first = x.run scope sofar next in
    let rest = run_all xs scope sofar (next + length first.1) in
    (first.0 ++ rest.0, first.1 ++ rest.1)

-- the one clause of the literals so far with this one
abbrev pub run_literal : Plit → Maker
run_literal l scope sofar next = (clause_of scope (sofar ++ l ∷ []) ∷ [], [])

abbrev pub run_each : List SortId → Maker → Maker
run_each vars k scope sofar next = k (scope ++ vars) sofar next

-- a predicate of all variables in scope, or its negation
abbrev pub proxy : Bool → List SortId → ℕ → Plit
proxy positive scope p = record { positive = positive; atom = Patom.Pred (record { 0 = p }) (all_variables zero scope) }

abbrev pub proxy_rank : List SortId → Rank
proxy_rank scope = record { args = map (λ (s : SortId). Ty.Of s) scope; result = Ty.Bool }

-- the literals of the clause, with proxies numbered from p on
abbrev pub heads : List Part → List SortId → ℕ → List Plit
heads [] scope p = []
heads (Part.Plain l ∷ ps) scope p = l ∷ heads ps scope p
heads (Part.Always ∷ ps) scope p = heads ps scope p
heads (Part.Other k ∷ ps) scope p = proxy true scope p ∷ heads ps scope (p + 1)

-- the ranks of the proxies, in the order of the members
abbrev pub proxy_ranks : List Part → List SortId → List Rank
proxy_ranks [] scope = []
proxy_ranks (Part.Plain l ∷ ps) scope = proxy_ranks ps scope
proxy_ranks (Part.Always ∷ ps) scope = proxy_ranks ps scope
proxy_ranks (Part.Other k ∷ ps) scope = proxy_rank scope ∷ proxy_ranks ps scope

-- the clauses of what the proxies stand for, each under its negated proxy
abbrev pub behind : List Part → List SortId → ℕ → ℕ → Made
behind [] scope p next = nothing
behind (Part.Plain l ∷ ps) scope p next = behind ps scope p next
behind (Part.Always ∷ ps) scope p next = behind ps scope p next
behind (Part.Other k ∷ ps) scope p next =
    let first = k scope (proxy false scope p ∷ []) next in
    let rest = behind ps scope (p + 1) (next + length first.1) in
    (first.0 ++ rest.0, first.1 ++ rest.1)

abbrev pub is_always : Part → Bool
is_always (Part.Plain l) = false
is_always Part.Always = true
is_always (Part.Other k) = false

abbrev pub has_always : List Part → Bool
has_always [] = false
has_always (p ∷ ps) = is_always p || has_always ps

-- a member that is always true leaves nothing; else the clause, and then what its proxies say
abbrev pub run_some : List Part → Maker
run_some ps scope sofar next =
    let proxies = proxy_ranks ps scope in
    let rest = behind ps scope next (next + length proxies) in
    cond (has_always ps) nothing (clause_of scope (sofar ++ heads ps scope next) ∷ rest.0, proxies ++ rest.1)

-- nested Ors are opened in place
abbrev pub all_parts : List Node → List Part
all_parts [] = []
all_parts (x ∷ xs) = x.parts ++ all_parts xs

-- an And of one member is that member
abbrev pub and_node : List Node → Node
and_node [] = record { run = run_all []; parts = Part.Always ∷ [] }
and_node (x ∷ []) = x
and_node (x ∷ y ∷ zs) = record { run = run_all (x ∷ y ∷ zs); parts = Part.Other (run_all (x ∷ y ∷ zs)) ∷ [] }

abbrev pub node_step : Nnf-F Node → Node
node_step (Nnf-F.Lit positive a) = record { run = run_literal (record { positive = positive; atom = a }); parts = Part.Plain (record { positive = positive; atom = a }) ∷ [] }
node_step (Nnf-F.And xs) = and_node xs
node_step (Nnf-F.Or xs) = record { run = run_some (all_parts xs); parts = all_parts xs }
node_step (Nnf-F.All vars x) = record { run = run_each vars x.run; parts = Part.Other (run_each vars x.run) ∷ [] }

abbrev pub node : Nnf → Node
node = fold-Nnf Node node_step

-- the clauses of a closed normal form and the ranks of its proxies, which are numbered from `next` on
abbrev pub clauses_of_normal : Nnf → ℕ → Made
clauses_of_normal f next = (node f).run [] [] next
