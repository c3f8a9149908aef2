-- The clause table of a list of assertions: each is lifted, then the lifted formula and each of its definitions is brought
-- into normal form and into clauses; last come constants for the sorts of which no ground term stands in a clause.
use Rattle.std.specs.Prelude.{ℕ, zero, suc, ◌+◌, ◌==◌, Bool, false, ◌&&◌, ◌||◌, cond, List, [], ◌∷◌, ◌++◌, length, map, slice_get, Option, Some, None}
use Rattle.std.specs.List.{list_any, list_all}
use Rattle.fm_base.specs.declared.signature.Rank.{Rank}
use Rattle.fm_base.specs.declared.signature.Sig.{Sig}
use Rattle.fm_base.specs.declared.signature.Ty.{Ty}
use Rattle.fm_base.specs.declared.formula.Formula.{Formula}
use Rattle.fm_base.specs.declared.formula.Patom.{Patom}
use Rattle.fm_base.specs.declared.formula.Pterm.{Pterm}
use Rattle.fm_base.specs.declared.formula.Pterm.TheOpen.{Pterm-F}
use Rattle.fm_base.specs.declared.formula.Pterm.TheFolds.{fold-Pterm}
use Rattle.fm_bank.specs.declared.clause.Clause.{Clause}
use Rattle.fm_bank.specs.declared.clause.ClauseSet.{ClauseSet}
use Rattle.fm_bank.specs.declared.clause.Plit.{Plit}
use Rattle.fm_nnf.specs.LiftLaw.{with_ranks}
use Rattle.fm_nnf.specs.Lifting.{lifted}
use Rattle.fm_nnf.specs.NormalForm.{normal}
use Rattle.fm_clauses.specs.Table.{Made, nothing, clauses_of_normal}

-- what is made where the next symbol has a number
abbrev pub Numbered : Type 0
Numbered = ℕ → Made

-- the one, and then the other with the numbers that follow
abbrev pub after : Numbered → Numbered → Numbered
after j k next =
    let one = j next in
    let rest = k (next + length one.1) in
    (one.0 ++ rest.0, one.1 ++ rest.1)

-- of a formula without term `ite`: its Skolem functions, then its proxies
abbrev pub form_made : Formula → Numbered
form_made f next =
    let n = normal f next in
    let k = clauses_of_normal n.0 (next + length n.1) in
    (k.0, n.1 ++ k.1)

abbrev pub forms_made : List Formula → Numbered
forms_made [] next = nothing
forms_made (f ∷ fs) next = after (form_made f) (forms_made fs) next

-- of an assertion: the symbols of its term `ite`s, then those of the lifted formula and of each definition
abbrev pub assertion_made : Sig → Formula → Numbered
assertion_made sig f next =
    let l = lifted sig f next in
    let made = forms_made (l.made ∷ l.definitions) (next + length l.ranks) in
    (made.0, l.ranks ++ made.1)

abbrev pub assertions_made : Sig → List Formula → Numbered
assertions_made sig [] next = nothing
assertions_made sig (f ∷ fs) next = after (assertion_made sig f) (assertions_made sig fs) next

-- whether a term has no variable, and of which sorts a term without variables stands in it
pub record Grounds : Type 0 where
  pub ground : Bool
  pub of_sort : ℕ → Bool

abbrev pub is_type : Ty → ℕ → Bool
is_type Ty.Bool s = false
is_type (Ty.Of u) s = u.0 == s

abbrev pub is_result : Option Rank → ℕ → Bool
is_result None s = false
is_result (Some r) s = is_type r.result s

abbrev pub all_ground : List Grounds → Bool
all_ground gs = list_all (λ (g : Grounds). g.ground) gs

abbrev pub some_of_sort : List Grounds → ℕ → Bool
some_of_sort gs s = list_any (λ (g : Grounds). g.of_sort s) gs

abbrev pub grounds_step : Sig → Pterm-F Grounds → Grounds
grounds_step sig (Pterm-F.Var v) = record { ground = false; of_sort = λ s. false }
grounds_step sig (Pterm-F.App f ts) = record {
  ground = all_ground ts;
  of_sort = λ s. (all_ground ts && is_result (slice_get sig.ranks f.0) s) || some_of_sort ts s;
}

abbrev pub grounds : Sig → Pterm → Grounds
grounds sig = fold-Pterm Grounds (grounds_step sig)

abbrev pub all_grounds : Sig → List Pterm → List Grounds
all_grounds sig ts = map (grounds sig) ts

abbrev pub atom_has_ground : Sig → ℕ → Patom → Bool
atom_has_ground sig s (Patom.Pred p ts) = some_of_sort (all_grounds sig ts) s
atom_has_ground sig s (Patom.Equal a b) = (grounds sig a).of_sort s || (grounds sig b).of_sort s

abbrev pub clause_has_ground : Sig → ℕ → Clause → Bool
clause_has_ground sig s c = list_any (λ (l : Plit). atom_has_ground sig s l.atom) c.lits

-- a term without variables, of this sort, stands in some clause
abbrev pub has_ground : Sig → List Clause → ℕ → Bool
has_ground sig clauses s = list_any (clause_has_ground sig s) clauses

abbrev pub constant_of : ℕ → Rank
constant_of s = record { args = []; result = Ty.Of (record { 0 = s }) }

-- a constant for each sort below n of which no ground term is there, in the order of the sorts
unfoldable pub fresh_constants : ℕ → (ℕ → Bool) → List Rank
fresh_constants zero has = []
fresh_constants (suc n) has = fresh_constants n has ++ cond (has n) [] (constant_of n ∷ [])

abbrev pub clause_table : Sig → List Formula → ClauseSet
clause_table sig assertions =
    let made = assertions_made sig assertions (length sig.ranks) in
    let symbols = with_ranks sig made.1 in
    record {
      sig = with_ranks symbols (fresh_constants sig.sorts (has_ground symbols made.0));
      user = length sig.ranks;
      clauses = made.0;
    }
