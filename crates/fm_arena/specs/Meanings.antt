-- What an elaborated term is: a tree for each place where it may stand. Its place says how many variables are bound
-- around it, and what stands for each name in scope, from the outermost. A variable counts from the outermost, so what
-- is put deeper keeps its free variables as they are and numbers its own binders anew: nothing is captured.
use Rattle.std.specs.Prelude.{ℕ, ◌+◌, ◌-◌, nat_lt, cond, Bool, List, [], ◌∷◌, ◌++◌, map, length, get_or, slice_get, Option, Some, None}
use Rattle.fm_base.specs.declared.ids.SortId.{SortId}
use Rattle.fm_base.specs.declared.formula.Formula
use Rattle.fm_base.specs.declared.formula.Formula.{Formula}
use Rattle.fm_base.specs.declared.formula.Fterm.{Fterm}
use Rattle.fm_base.specs.declared.signature.Ty.{Ty}
use Rattle.fm_base.specs.Truth.{is_bool}
use Rattle.fm_arena.specs.Trees.{nothing, of_kind, built, formula_in}
use Rattle.fm_arena.specs.declared.node.Tree.{Tree}
use Rattle.fm_arena.specs.Measures.{tree_measure}
use Rattle.fm_arena.specs.declared.node.Op.{Op}
use Rattle.fm_arena.specs.declared.node.Node.{Node}
use Rattle.fm_arena.specs.declared.node.Entry.{Entry}
use Rattle.fm_arena.specs.declared.sizes.Measure.{Measure}

-- a tree under so many variables
abbrev pub Placed : Type 0
Placed = ℕ → Tree

-- what stands for each name in scope, by its place, the outermost first
abbrev pub Names : Type 0
Names = ℕ → Placed

-- the tree where each name in scope stands for a tree
abbrev pub Meaning : Type 0
Meaning = Names → Placed

abbrev pub nowhere : Placed
nowhere d = nothing

abbrev pub no_names : Names
no_names place = nowhere

-- the names within a block that stands under so many variables, where so many names are in scope around it
abbrev pub inside : ℕ → ℕ → Names → Names
inside base depth names place = cond (nat_lt place base) (names place) (λ d. Tree.Thing (Fterm.Var (depth + (place - base))))

-- the name at a place in scope
abbrev pub named : ℕ → Bool → Meaning
named place truth names d = of_kind truth (names place d)

abbrev pub meanings_at : List Meaning → Names → ℕ → List Tree
meanings_at ms names d = map (λ (m : Meaning). m names d) ms

abbrev pub made : Op → List Meaning → Meaning
made op ms names d = built op (meanings_at ms names d)

-- a block of quantifiers, where so many names are in scope
abbrev pub quantified : Bool → List SortId → ℕ → Meaning → Meaning
quantified all vars base body names d = Tree.Truth (Formula.Quant all vars (formula_in (body (inside base d names) (d + length vars))))

-- what stands for the parameters of a definition that is used
abbrev pub given : List Meaning → Names → Names
given args names place = get_or (map (λ (a : Meaning). a names) args) place nowhere

-- a definition that is used: its body, where each parameter stands for its argument
abbrev pub applied : Meaning → List Meaning → Meaning
applied body args names d = body (given args names) d

-- where there is no term
abbrev pub absent : Meaning
absent names d = nothing

-- the tree where no name is in scope and no variable is bound around it
abbrev pub closed : Meaning → Tree
closed m = m no_names 0

-- the size and depth of that tree, in which a name counts as one node
abbrev pub measure_of : Meaning → Measure
measure_of m = tree_measure (closed m)

-- a term: its type and what it means
pub record Term : Type 0 where
  pub ty : Ty
  pub meaning : Meaning

-- The terms of an arena.

abbrev pub meaning_in : Option Term → Meaning
meaning_in None = absent
meaning_in (Some t) = t.meaning

abbrev pub meaning_at : List Term → ℕ → Meaning
meaning_at ts i = meaning_in (slice_get ts i)

-- the type of a term: Bool, where there is none
abbrev pub type_in : Option Term → Ty
type_in None = Ty.Bool
type_in (Some t) = t.ty

abbrev pub type_at : List Term → ℕ → Ty
type_at ts i = type_in (slice_get ts i)

abbrev pub kind_at : List Term → ℕ → Bool
kind_at ts i = is_bool (type_at ts i)

-- the trees of some numbers
abbrev pub trees_at : List Term → List ℕ → Names → ℕ → List Tree
trees_at ts is names d = meanings_at (map (meaning_at ts) is) names d

abbrev pub term_in : List Term → ℕ → Term
term_in ts i = record { ty = type_at ts i; meaning = meaning_at ts i }

abbrev pub meaning_of : List Term → Node → Meaning
meaning_of ts (Node.Name place truth) = named place truth
meaning_of ts (Node.Made op parts) = made op (map (meaning_at ts) parts)
meaning_of ts (Node.Quant all vars base body) = quantified all vars base (meaning_at ts body)
meaning_of ts (Node.Defined body form) = meaning_at ts body
meaning_of ts (Node.Use body args form) = applied (meaning_at ts body) (map (meaning_at ts) args)

abbrev pub tree_at : List Term → ℕ → Tree
tree_at ts i = closed (meaning_at ts i)

-- what is made of earlier terms
abbrev pub Making : Type 0
Making = List Term → Term

-- the name at a place, of a type
abbrev pub name_made : ℕ → Ty → Making
name_made place ty ts = record { ty = ty; meaning = named place (is_bool ty) }

-- what an operator makes of terms
abbrev pub term_made : Op → Ty → List ℕ → Making
term_made op ty parts ts = record { ty = ty; meaning = made op (map (meaning_at ts) parts) }

-- a block over a term
abbrev pub block_made : Bool → List SortId → ℕ → ℕ → Making
block_made all vars base body ts = record { ty = Ty.Bool; meaning = quantified all vars base (meaning_at ts body) }

-- a definition with a body, and its use
abbrev pub definition_made : ℕ → Making
definition_made body ts = term_in ts body

abbrev pub use_made : ℕ → List ℕ → Making
use_made body args ts = record { ty = type_at ts body; meaning = applied (meaning_at ts body) (map (meaning_at ts) args) }

abbrev pub term_of : List Term → Entry → Term
term_of ts e = record { ty = e.ty; meaning = meaning_of ts e.node }

-- the terms of an arena's entries, one after the other, each over those before it
abbrev pub terms_after : List Term → List Entry → List Term
terms_after ts [] = ts
terms_after ts (e ∷ es) = terms_after (ts ++ term_of ts e ∷ []) es

abbrev pub terms_of : List Entry → List Term
terms_of es = terms_after [] es
