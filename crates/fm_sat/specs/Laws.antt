-- Laws of explained trails and of learning.
use Rattle.std.specs.Prelude.{◌≡◌, ℕ, ◌<◌, true, List, [], ◌∷◌, ◌++◌, length, slice_get, Some, None}
use Rattle.fm_base.specs.declared.ids.Lit.{Lit}
use Rattle.fm_base.specs.Resolution.{Chain, SameSet, opposite}
use Rattle.fm_trail.specs.declared.entry.Entry.{Entry}
use Rattle.fm_trail.specs.Trail.{AreLevelled, are_false, decision, implied, level_of, up_to, value_of}
use Rattle.fm_sat.specs.Learning.{Clauses, Derives, Explains, IsAsserting, IsExplained, IsConflict, IsReason, IsRefuted, IsTopLevel, StandsAlone, Steps}
use Rattle.fm_sat.specs.Store.{IsUnit}

-- a unit clause is a reason for its literal, which has no value
abbrev pub UnitsAreReasons : Type 0
UnitsAreReasons =
    (cs : Clauses) (es : List Entry) (n : ℕ) (l : Lit)
    → IsUnit cs es n l → IsReason cs es l n × (value_of es l.atom ≡ None)

-- the store goes on explaining the trail once a literal is implied by a clause that is a reason for it
abbrev pub ImplyingKeeps : Type 0
ImplyingKeeps =
    (cs : Clauses) (es : List Entry) (n : ℕ) (l : Lit)
    → Explains cs es → IsReason cs es l n → Explains cs (es ++ implied es l n ∷ [])

-- a decision needs no reason
abbrev pub DecidingKeeps : Type 0
DecidingKeeps = (cs : Clauses) (es : List Entry) (l : Lit) → Explains cs es → Explains cs (es ++ decision es l ∷ [])

-- what stood before an entry stands before it after going back
abbrev pub GoingBackKeeps : Type 0
GoingBackKeeps =
    (cs : Clauses) (es : List Entry) (level : ℕ)
    → AreLevelled 0 es → Explains cs es → Explains cs (up_to level es)

-- a clause that is added changes no other
abbrev pub AddingKeeps : Type 0
AddingKeeps = (cs : Clauses) (c : List Lit) (es : List Entry) → Explains cs es → Explains (cs ++ c ∷ []) es

-- After learning: the level is open, the literal has no value there, and the store explains the trail that goes on
-- there with the literal and the clause number n as its reason.
pub record GoesOn (cs : Clauses) (es : List Entry) (n : ℕ) (l : Lit) (level : ℕ) : Type 0 where
  pub opened : level < level_of es
  pub free : value_of (up_to level es) l.atom ≡ None
  pub explained : Explains cs (up_to level es ++ implied (up_to level es) l n ∷ [])

-- what is learnt is added and implies its literal
abbrev pub LearningGoesOn : Type 0
LearningGoesOn =
    (cs : Clauses) (es : List Entry) (c : List Lit) (l : Lit) (level : ℕ)
    → IsExplained cs es → IsAsserting es c l level → GoesOn (cs ++ c ∷ []) es (length cs) l level

-- where no step was taken, the false clause itself is the set of what is learnt, and implies the literal
abbrev pub AssertingGoesOn : Type 0
AssertingGoesOn =
    (cs : Clauses) (es : List Entry) (n : ℕ) (start c : List Lit) (l : Lit) (level : ℕ)
    → IsExplained cs es → slice_get cs n ≡ Some start → SameSet start c → IsAsserting es c l level → GoesOn cs es n l level

-- the highest level of a false clause tells whether it is one to refute or one to learn from
pub record TellsWhich (cs : Clauses) (es : List Entry) (n level : ℕ) : Type 0 where
  pub refuted : level ≡ 0 → IsRefuted cs es n
  pub conflict : 0 < level → IsConflict cs es n

abbrev pub LevelTellsWhich : Type 0
LevelTellsWhich =
    (cs : Clauses) (es : List Entry) (n level : ℕ) (c : List Lit)
    → slice_get cs n ≡ Some c → are_false es c ≡ true → IsTopLevel cs es n level → TellsWhich cs es n level

-- each step of the rule is one of resolution
abbrev pub DerivationsAreChains : Type 0
DerivationsAreChains =
    (keep : ℕ) (cs : Clauses) (es : List Entry) (start : List Lit) (steps : Steps) (end : List Lit)
    → Derives keep cs es start steps end → Chain opposite cs start steps end

-- a derivation that ends with a literal that stands alone
pub record EndsAlone (cs : Clauses) (es : List Entry) (start : List Lit) (steps : Steps) (end : List Lit) : Type 0 where
  pub derived : Derives 1 cs es start steps end
  pub lit : Lit
  pub alone : StandsAlone es end lit

-- the rule has one outcome: the same steps, and one set of literals
abbrev pub LearningIsDetermined : Type 0
LearningIsDetermined =
    (cs : Clauses) (es : List Entry) (start : List Lit) (steps steps' : Steps) (end end' : List Lit)
    → IsExplained cs es → are_false es start ≡ true
    → EndsAlone cs es start steps end → EndsAlone cs es start steps' end' → (steps ≡ steps') × SameSet end end'
