-- The fresh constants: one for each sort of which the clauses have no term without variables.
use Rattle.std.specs.Prelude.{◌≡◌, ℕ, ◌-◌, true, List, [], ◌++◌, drop, length, map}
use Rattle.std.specs.List.{filter, list_all, range_with_len}
use Rattle.fm_base.specs.Resolution.{Has}
use Rattle.fm_base.specs.declared.signature.Rank.{Rank}
use Rattle.fm_base.specs.declared.signature.Ty.{Ty}
use Rattle.fm_bank.specs.Interning.{IsFront}
use Rattle.fm_bank.specs.Sorted.{is_sorted_clause}
use Rattle.fm_bank.specs.Terms.{Term}
use Rattle.fm_bank.specs.declared.clause.ClauseSet.{ClauseSet}
use Rattle.fm_rounds.specs.InstanceTerms.{clauses_ground_grown, fresh_symbols, is_bare}

abbrev pub bare_sorts : ClauseSet → List ℕ
bare_sorts set = filter (is_bare set) (range_with_len 0 set.sig.sorts)

abbrev pub constant_of : ℕ → Rank
constant_of s = record { args = []; result = Ty.Of (record { 0 = s }) }

-- the last symbols are these constants, in the order of their sorts
abbrev pub HasFreshConstants : ClauseSet → Type 0
HasFreshConstants set = drop (length set.sig.ranks - length (bare_sorts set)) set.sig.ranks ≡ map constant_of (bare_sorts set)

-- terms that begin with the ground terms of the clauses and have the fresh constants
pub record HasStartTerms (set : ClauseSet) (terms : List Term) : Type 0 where
  pub ground : IsFront (clauses_ground_grown set.clauses []) terms
  pub constants : (f : ℕ) → Has (fresh_symbols set) f → Has terms (record { symbol = f; args = [] })

-- clauses with the fresh constants behind the symbols of their signature
abbrev pub with_fresh : ClauseSet → ClauseSet
with_fresh set = record { sig = record { sorts = set.sig.sorts; ranks = set.sig.ranks ++ map constant_of (bare_sorts set) }; user = set.user; clauses = set.clauses }

-- these are the fresh constants of what comes out, since well sorted clauses have none of them
abbrev pub FreshConstantsFit : Type 0
FreshConstantsFit = (set : ClauseSet) → list_all (is_sorted_clause set.sig) set.clauses ≡ true → HasFreshConstants (with_fresh set)
