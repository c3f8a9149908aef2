-- What is asked of clauses before their fresh constants.
use Rattle.std.specs.Prelude.{◌≡◌, Bool, true}
use Rattle.std.specs.List.{list_all}
use Rattle.fm_base.specs.Interpretations.{names_its_sorts}
use Rattle.fm_base.specs.declared.signature.Rank.{Rank}
use Rattle.fm_bank.specs.Sorted.{is_sorted_clause}
use Rattle.fm_bank.specs.declared.clause.ClauseSet.{ClauseSet}
use Rattle.fm_rounds.specs.Grounds.{is_declared}

-- no argument is Bool
abbrev pub takes_declared : Rank → Bool
takes_declared r = list_all is_declared r.args

pub record IsWellSorted (set : ClauseSet) : Type 0 where
  pub named : names_its_sorts set.sig ≡ true
  pub declared : list_all takes_declared set.sig.ranks ≡ true
  pub sorted : list_all (is_sorted_clause set.sig) set.clauses ≡ true
