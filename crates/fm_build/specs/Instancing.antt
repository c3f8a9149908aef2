-- The instances of a content, from those that were added.
use Rattle.std.specs.Prelude.{◌≡◌, ℕ, List, ◌++◌, map}
use Rattle.fm_base.specs.declared.ids.TermId.{TermId}
use Rattle.fm_bank.specs.Terms.{Term}
use Rattle.fm_bank.specs.declared.clause.ClauseSet.{ClauseSet}
use Rattle.fm_rounds.specs.Failing.{numbered}
use Rattle.fm_rounds.specs.InstanceTerms.{clause_terms}
use Rattle.fm_rounds.specs.Rounds.{literals_at}
use Rattle.fm_build.specs.Reached.{pairs_of}
use Rattle.fm_build.specs.declared.instance.Instance.{Instance}

-- the substitution, and the terms of the instance
abbrev pub instance_content : ClauseSet → List Term → (ℕ × List ℕ) → List ℕ × List ℕ
instance_content set terms i = (i.1, clause_terms terms i.1 (literals_at set.clauses i.0))

abbrev pub contents_of : ClauseSet → List Term → List (ℕ × List ℕ) → List (List ℕ × List ℕ)
contents_of set terms added = map (instance_content set terms) added

-- they have been put behind others
abbrev pub PutsInstances : ClauseSet → List Term → List (ℕ × List TermId) → List Instance → List Instance → Type 0
PutsInstances set terms added old new = pairs_of new ≡ pairs_of old ++ contents_of set terms (numbered added)
