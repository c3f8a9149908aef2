-- A pass over the terms of a list, by a table of signatures: the symbol of a term with the classes of its arguments, and the
-- first term that has it.
use Rattle.std.specs.Prelude.{◌≡◌, ℕ, ◌<◌, ◌≤◌, Bool, true, false, List, [], ◌∷◌, ◌++◌, length, map, take, slice_get, Option, Some, None}
use Rattle.std.specs.List.{All, Contains}
use Rattle.std.specs.Map.{lookup}
use Rattle.fm_base.specs.declared.ids.TermId.{TermId}
use Rattle.fm_bank.specs.Closure.{object}
use Rattle.fm_bank.specs.Terms.{Term, is_same}
use Rattle.fm_closure.specs.Classes.{AllAreClosed, AreClosed, AreJoined, AreOfClasses, AreSoundOver, AreUnjoined, by_class, class_at, is_there, number_of}
use Rattle.fm_closure.specs.Members.{AreUnited, kinds}
use Rattle.fm_closure.specs.declared.object.Object.{Object}

abbrev pub class_or : Option ℕ → ℕ
class_or None = 0
class_or (Some c) = c

-- the class of a term that is there
abbrev pub class_of_term : List Object → List ℕ → ℕ → ℕ
class_of_term objects classes n = class_or (class_at objects classes (object n))

abbrev pub signature : List Object → List ℕ → Term → Term
signature objects classes t = record { symbol = t.symbol; args = map (class_of_term objects classes) t.args }

-- it is that of the term of a number
abbrev pub IsSignature : List Object → List ℕ → List Term → TermId → Term → Type 0
IsSignature objects classes terms a key = (t : Term) → slice_get terms a.0 ≡ Some t → key ≡ signature objects classes t

abbrev pub find_in : List (Term × TermId) → Term → Option TermId
find_in entries key = lookup (is_same key) entries

abbrev pub new_entry : Option TermId → Term → TermId → List (Term × TermId)
new_entry None key a = (key, a) ∷ []
new_entry (Some u) key a = []

-- a term has been looked up by its signature, and entered where there was none
pub record IsLookedUp (objects : List Object) (classes : List ℕ) (terms : List Term) (a : TermId) (old new : List (Term × TermId)) (found : Option TermId) : Type 0 where
  pub key : Term
  pub signed : IsSignature objects classes terms a key
  pub is : found ≡ find_in old key
  pub entries : new ≡ old ++ new_entry found key a

-- the arguments of a term are there
abbrev pub HasArguments : List Object → List Term → TermId → Type 0
HasArguments objects terms a = (t : Term) → slice_get terms a.0 ≡ Some t → All (λ n. is_there objects (object n) ≡ true) t.args

abbrev pub AllHaveArguments : List Object → List Term → List TermId → Type 0
AllHaveArguments objects terms over = All (HasArguments objects terms) over

-- two classes have been joined, where congruent terms were of two, else nothing has changed
abbrev pub HasJoined : List Object → List Term → TermId → Option TermId → List ℕ → List ℕ → Bool → Type 0
HasJoined objects terms a found old new true = (b : TermId) × (p : ℕ × ℕ) × (found ≡ Some b) × AreUnjoined objects old terms a b p × AreUnited p.0 p.1 old new
HasJoined objects terms a found old new false = (new ≡ old) × ((b : TermId) → found ≡ Some b → AreClosed objects old terms a b)

-- the same for the sides of a fact
abbrev pub HasJoinedFact : List Object → Object × Object → List ℕ → List ℕ → Bool → Type 0
HasJoinedFact objects f old new true = (p : ℕ × ℕ) × AreOfClasses objects old (number_of f.0) (number_of f.1) p × AreUnited p.0 p.1 old new
HasJoinedFact objects f old new false = (new ≡ old) × AreJoined objects old f

-- the term that is found by a term's signature is of its class
pub record IsEntered (objects : List Object) (classes : List ℕ) (terms : List Term) (entries : List (Term × TermId)) (a : TermId) : Type 0 where
  pub key : Term
  pub signed : IsSignature objects classes terms a key
  pub first : TermId
  pub found : find_in entries key ≡ Some first
  pub same : by_class objects classes (object a.0) (object first.0) ≡ true

-- the classes in the midst of a pass, which began with others, or with these where nothing was joined
pub record IsPass (objects : List Object) (terms : List Term) (over : List TermId) (facts : List (Object × Object)) (start classes : List ℕ) (changed : Bool) : Type 0 where
  pub whole : length classes ≡ length objects
  pub sound : AreSoundOver terms over facts objects classes
  pub falls : kinds classes ≤ kinds start
  pub less : changed ≡ true → kinds classes < kinds start
  pub same : changed ≡ false → classes ≡ start

-- the table in the midst of a pass, behind the first terms
pub record IsTabled (objects : List Object) (terms : List Term) (over : List TermId) (start : List ℕ) (changed : Bool) (entries : List (Term × TermId)) (count : ℕ) : Type 0 where
  pub among : All (λ (e : Term × TermId). Contains over e.1) entries
  pub signed : changed ≡ false → All (λ (e : Term × TermId). IsSignature objects start terms e.1 e.0) entries
  pub entered : changed ≡ false → All (IsEntered objects start terms entries) (take count over)

-- after a pass in which nothing was joined all is
abbrev pub FactsAreDone : List Object → List (Object × Object) → List ℕ → Bool → Type 0
FactsAreDone objects facts classes changed = changed ≡ false → All (AreJoined objects classes) facts

abbrev pub TermsAreDone : List Object → List Term → List TermId → List ℕ → Bool → Type 0
TermsAreDone objects terms over classes changed = changed ≡ false → AllAreClosed objects classes terms over
