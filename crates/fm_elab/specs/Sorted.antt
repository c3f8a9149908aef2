-- What is well sorted over a signature: a tree that stands for a term, the meaning of a term, a function in force.
use Rattle.std.specs.Prelude.{◌≡◌, ℕ, ◌<◌, ◌≤◌, Bool, true, not, List, ◌++◌, length, slice_get, Option, Some, None}
use Rattle.std.specs.List.{AllByRecursion, list_all}
use Rattle.fm_base.specs.Interpretations.{is_sort_of}
use Rattle.fm_base.specs.Truth.{is_bool, is_of_sort, is_well_sorted, sort_of}
use Rattle.fm_base.specs.declared.ids.SortId.{SortId}
use Rattle.fm_base.specs.declared.signature.Sig.{Sig}
use Rattle.fm_base.specs.declared.signature.Ty.{Ty}
use Rattle.fm_arena.specs.Meanings.{Meaning, Names, Term}
use Rattle.fm_arena.specs.Trees.{formula_in, thing_in}
use Rattle.fm_arena.specs.declared.node.Tree.{Tree}
use Rattle.fm_apply.specs.Applied.{Bound, Context, Function, Named, Sort, Stands}
use Rattle.fm_terms.specs.Elaborate.{Read}

-- a formula where the type is Bool, else a term of the sort, under the variables in scope
abbrev pub is_sorted_tree : Sig → Ty → List SortId → Tree → Bool
is_sorted_tree sig Ty.Bool scope t = is_well_sorted (formula_in t) sig scope
is_sorted_tree sig (Ty.Of s) scope t = is_of_sort (sort_of (thing_in t) sig scope) (Ty.Of s)

abbrev pub IsSortedTree : Sig → Ty → List SortId → Tree → Type 0
IsSortedTree sig ty scope t = is_sorted_tree sig ty scope t ≡ true

-- the types of the names in scope, by their places, as far as they are known
abbrev pub Known : Type 0
Known = ℕ → Option Ty

abbrev pub nothing_known : Known
nothing_known place = None

-- each name of a known type stands for trees of the type, under the variables in scope and whatever more
abbrev pub AreSortedNames : Known → Sig → List SortId → Names → Type 0
AreSortedNames known sig scope names =
    (place : ℕ) (ty : Ty) (more : List SortId) → known place ≡ Some ty → IsSortedTree sig ty (scope ++ more) (names place (length (scope ++ more)))

-- the tree is of the type wherever the names are of theirs
abbrev pub IsSortedMeaning : Known → Sig → Ty → Meaning → Type 0
IsSortedMeaning known sig ty m = (scope : List SortId) (names : Names) → AreSortedNames known sig scope names → IsSortedTree sig ty scope (m names (length scope))

abbrev pub IsSortedTerm : Known → Sig → Term → Type 0
IsSortedTerm known sig t = IsSortedMeaning known sig t.ty t.meaning

-- in which no name stands
abbrev pub IsSortedAnywhere : Sig → Term → Type 0
IsSortedAnywhere sig t = IsSortedTerm nothing_known sig t

-- the types of parameters
abbrev pub parameters : List Ty → Known
parameters tys place = slice_get tys place

abbrev pub takes_no_truth : List Ty → Bool
takes_no_truth tys = list_all (λ (ty : Ty). not (is_bool ty)) tys

-- a declared function has its rank, which takes no truth values; a definition's body is of its type under its parameters
abbrev pub StandsSorted : Sig → List Ty → Ty → Stands → Type 0
StandsSorted sig args result (Stands.Declared f) = (slice_get sig.ranks f.0 ≡ Some (record { args = args; result = result })) × (takes_no_truth args ≡ true)
StandsSorted sig args result (Stands.Defined m) = IsSortedMeaning (parameters args) sig result m

abbrev pub IsSortedFunction : Sig → Function → Type 0
IsSortedFunction sig f = StandsSorted sig f.args f.result f.stands

abbrev pub AreAnywhere : Sig → List Named → Type 0
AreAnywhere sig ns = AllByRecursion (λ (n : Named). IsSortedAnywhere sig n.term) ns

-- the sorts in force stand for declared ones, and the functions in force are well sorted
pub record IsSortedContext (sig : Sig) (c : Context) : Type 0 where
  pub sorts : AllByRecursion (λ (s : Sort). is_sort_of sig.sorts s.ty ≡ true) c.sorts
  pub functions : AllByRecursion (IsSortedFunction sig) c.functions

-- types of places below a number
abbrev pub AreBelow : ℕ → Known → Type 0
AreBelow n known = (place : ℕ) (ty : Ty) → known place ≡ Some ty → place < n

-- the bound names from a place on are well sorted
abbrev pub AreSortedFrom : Known → Sig → ℕ → List Bound → Type 0
AreSortedFrom known sig low bound = (i : ℕ) (b : Bound) → low ≤ i → slice_get bound i ≡ Some b → IsSortedTerm known sig b.term

-- what is read is well sorted wherever the bound names that stand in it are, and the names that were given anywhere
pub record IsSortedRead (sig : Sig) (c : Context) (r : Read) : Type 0 where
  pub term : (known : Known) → AreBelow c.places known → AreSortedFrom known sig r.low c.bound → IsSortedTerm known sig r.term
  pub named : AreAnywhere sig r.named
