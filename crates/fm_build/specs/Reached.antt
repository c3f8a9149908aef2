-- Rounds by marks: what a state of them says of a content's rounds.
use Rattle.std.specs.Prelude.{◌≡◌, ℕ, zero, suc, ◌<◌, ◌==◌, Bool, List, [], ◌∷◌, ◌++◌, cond, length, map}
use Rattle.std.specs.List.{list_all}
use Rattle.fm_bank.specs.Closure.{object}
use Rattle.fm_bank.specs.Subterms.{is_found as has}
use Rattle.fm_rounds.specs.Rounds.{Content, Round, reached, round}
use Rattle.fm_build.specs.Marks.{AreBelow, AreMarked, AreTaken, class_at, is_marked, new_by}
use Rattle.fm_build.specs.declared.instance.Instance.{Instance}
use Rattle.fm_build.specs.declared.rounds.Reached.{Reached}

abbrev pub pair_of : Instance → List ℕ × List ℕ
pair_of i = (i.subst.items, i.terms.items)

abbrev pub pairs_of : List Instance → List (List ℕ × List ℕ)
pairs_of added = map pair_of added

pub record IsInstanceBelow (n : ℕ) (i : Instance) : Type 0 where
  pub subst : AreBelow i.subst.items n
  pub terms : AreBelow i.terms.items n

abbrev pub AreInstancesBelow : ℕ → List Instance → Type 0
AreInstancesBelow n [] = Unit {0}
AreInstancesBelow n (i ∷ is) = IsInstanceBelow n i × AreInstancesBelow n is

-- the terms of an instance, where its substitution is chosen
abbrev pub reached_in : List Bool → (List ℕ × List ℕ) → List ℕ
reached_in chosen i = cond (list_all (is_marked chosen) i.0) i.1 []

-- a class for each term of a content, so that terms are the same where their classes are
pub record Classifies (class : List ℕ) (c : Content) : Type 0 where
  pub count : length class ≡ length c.terms
  pub same : (a b : ℕ) → a < length c.terms → b < length c.terms → c.same (object a) (object b) ≡ (class_at class a == class_at class b)

-- the lists of a state fit together: the chosen terms are the representatives, and the taken classes are theirs
pub record IsKept (class : List ℕ) (s : Reached) : Type 0 where
  pub marks : length s.marks.items ≡ length class
  pub chosen : AreMarked s.chosen.items (length class) s.reps.items
  pub room : length s.taken.items ≡ length class
  pub taken : AreTaken class s.taken.items s.reps.items
  pub below : AreBelow s.reps.items (length class)

-- the state has the terms and the representatives of a round
pub record IsRoundBy (class : List ℕ) (r : Round) (s : Reached) : Type 0 where
  pub marks : (n : ℕ) → n < length class → is_marked s.marks.items n ≡ has r.terms n
  pub reps : s.reps.items ≡ r.reps

-- each class with a marked term and without a representative has got its oldest marked one
pub record HasChosen (class : List ℕ) (old new : Reached) : Type 0 where
  pub marks : new.marks.items ≡ old.marks.items
  pub reps : new.reps.items ≡ old.reps.items ++ new_by class old.marks.items old.reps.items (length class)

abbrev pub BeginsFrom : List ℕ → List ℕ → Reached → Type 0
BeginsFrom class start s = (c : Content) → Classifies class c → c.start ≡ start → IsRoundBy class (round c zero) s

abbrev pub MovesOn : List ℕ → List (List ℕ × List ℕ) → Reached → Reached → Type 0
MovesOn class added old new = (c : Content) (k : ℕ) → Classifies class c → c.added ≡ added → IsRoundBy class (round c k) old → IsRoundBy class (round c (suc k)) new

abbrev pub HasReached : List ℕ → List ℕ → List (List ℕ × List ℕ) → Reached → Type 0
HasReached class start added s = (c : Content) → Classifies class c → c.start ≡ start → c.added ≡ added → IsRoundBy class (reached c) s
