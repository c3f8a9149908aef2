-- The index of the false equalities beside a state: which classes are apart, now and at each open level.
use Rattle.std.specs.Prelude.{◌≡◌, ℕ, ◌≤◌, ◌<◌, List, [], ◌++◌, drop, length, map, take}
use Rattle.std.specs.List.{cons_option, slice_index_or}
use Rattle.fm_cells.specs.Apart.{FollowsJoins, IsIndexed, IsIndexedAt}
use Rattle.fm_cells.specs.declared.apart.Apart.{Apart}
use Rattle.fm_cells.specs.declared.apart.Cut.{Cut}
use Rattle.fm_cong.specs.Facts.{numbers_of_pair, unequal_by, unequal_of}
use Rattle.fm_cong.specs.Levels.{class_at}
use Rattle.fm_cong.specs.States.{class_in}
use Rattle.fm_cong.specs.declared.fact.Fact.{Fact}
use Rattle.fm_cong.specs.declared.mark.Mark.{Mark}
use Rattle.fm_cong.specs.declared.state.State.{State}

-- its pairs are the sides of the false equalities among the facts
abbrev pub HasPairsOf : List Fact → Apart → Type 0
HasPairsOf facts a = map numbers_of_pair a.pairs.items ≡ unequal_of facts

-- the sides of one literal more are among them, where it is a false equality
abbrev pub AreNoted : Apart → Apart → Fact → Type 0
AreNoted old new fact = map numbers_of_pair new.pairs.items ≡ map numbers_of_pair old.pairs.items ++ cons_option (unequal_by fact) []

-- it follows what was written of the classes since a mark
abbrev pub FollowsJoinsSince : State → Mark → Apart → Apart → Type 0
FollowsJoinsSince s from old new = FollowsJoins old new s.classes.class.cells.items (drop from.class s.classes.class.log.items)

-- what a rewind to the cut of a level leaves is right for the classes and the facts at its mark
pub record IsCutFor (s : State) (a : Apart) (m : Mark) (c : Cut) : Type 0 where
  pub indexed : IsIndexedAt (class_at s m) a c
  pub count : c.pairs ≡ length (unequal_of (take m.facts s.facts.items))

pub record IsCutBefore (c d : Cut) : Type 0 where
  pub pairs : c.pairs ≤ d.pairs
  pub keys : c.keys ≤ d.keys

-- it is right for the classes now, and each open level has its cut
pub record IsTracked (s : State) (a : Apart) (marks : List Mark) (cuts : List Cut) : Type 0 where
  pub indexed : IsIndexed (class_in s) a
  pub long : length cuts ≡ length marks
  pub each : (i : ℕ) (d : Mark) (e : Cut) → i < length marks → IsCutFor s a (slice_index_or marks i d) (slice_index_or cuts i e)
  pub ordered : (i j : ℕ) (e : Cut) → i ≤ j → j < length cuts → IsCutBefore (slice_index_or cuts i e) (slice_index_or cuts j e)
