-- The representatives of a tuple of elements.
use Rattle.std.specs.Prelude.{◌≡◌, ℕ, true, List, map}
use Rattle.fm_base.specs.Interpretations.{names_its_sorts, reading_of}
use Rattle.fm_base.specs.Models.{IsElements}
use Rattle.fm_base.specs.Resolution.{Has}
use Rattle.fm_base.specs.declared.ids.SortId.{SortId}
use Rattle.fm_bank.specs.Instances.{is_substitution}
use Rattle.fm_rounds.specs.Failing.{named_of}
use Rattle.fm_rounds.specs.Grounds.{IsGrounded}
use Rattle.fm_rounds.specs.Rounds.{Content, candidate, element_of, reached, representatives}

-- they are reached representatives of the variables' sorts, and have the tuple's elements
pub record AreNamed (c : Content) (vars : List SortId) (xs ns : List ℕ) : Type 0 where
  pub elements : map (element_of c) ns ≡ xs
  pub typed : is_substitution c.sig c.terms vars ns ≡ true
  pub chosen : (n : ℕ) → Has ns n → Has (reached c).reps n

abbrev pub TuplesAreNamed : Type 0
TuplesAreNamed =
    (c : Content) (vars : List SortId) (xs : List ℕ) → IsGrounded c → names_its_sorts c.sig ≡ true → IsElements (reading_of (candidate c)) vars xs
    → AreNamed c vars xs (named_of (representatives c) vars xs)
