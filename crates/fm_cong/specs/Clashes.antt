-- Clashes: a false equality whose sides are equal, or a true and a false predicate term that are.
use Rattle.std.specs.Prelude.{◌≡◌, ◌==◌, ℕ, Bool, true, false, if◌then◌else◌, List, [], ◌∷◌, Option, Some, None}
use Rattle.std.specs.List.{All, Contains}
use mathlib.Core.Bool.{beq}
use Rattle.fm_base.specs.declared.ids.AtomId.{AtomId}
use Rattle.fm_base.specs.declared.ids.TermId.{TermId}
use Rattle.fm_bank.specs.Closure.{object}
use Rattle.fm_bank.specs.declared.atom.Atom.{Atom}
use Rattle.fm_cells.specs.Rings.{own_or}
use Rattle.fm_cong.specs.Facts.{pairs_of, unequal_by}
use Rattle.fm_cong.specs.Held.{AreEqual, Held}
use Rattle.fm_cong.specs.declared.clash.Clash.{Clash}
use Rattle.fm_cong.specs.declared.fact.Fact.{Fact}

-- a false equality was read, on this atom, and its sides are equal
pub record HasEqualSides (g : Held) (k : AtomId) : Type 0 where
  pub fact : Fact
  pub read : Contains g.facts fact
  pub atom_is : fact.lit.atom ≡ k
  pub left : ℕ
  pub right : ℕ
  pub sides : unequal_by fact ≡ Some (left, right)
  pub equal : AreEqual g (object left) (object right)

-- the term that a literal of this sign is on, where it is on a predicate term
abbrev pub term_by : Bool → Atom → Bool → Option TermId
term_by sign (Atom.Pred t) positive = if beq positive sign then Some t else None
term_by sign (Atom.Equal a b) positive = None
term_by sign (Atom.Card s k) positive = None
term_by sign (Atom.Bound n) positive = None

abbrev pub term_read : Bool → Fact → Option TermId
term_read sign f = term_by sign f.atom f.lit.positive

-- a predicate term was read with this sign
pub record IsRead (g : Held) (sign : Bool) (t : TermId) : Type 0 where
  pub fact : Fact
  pub read : Contains g.facts fact
  pub term_is : term_read sign fact ≡ Some t

-- a term was read as true and another one as false, and they are equal
pub record HaveTwoTruths (g : Held) (p q : TermId) : Type 0 where
  pub holds : IsRead g true p
  pub fails : IsRead g false q
  pub equal : AreEqual g (object p.0) (object q.0)

abbrev pub IsClash : Held → Clash → Type 0
IsClash g (Clash.Facts k) = HasEqualSides g k
IsClash g (Clash.Truth p q) = HaveTwoTruths g p q

abbrev pub HasNoClash : Held → Type 0
HasNoClash g = (c : Clash) → IsClash g c → ⊥

-- How it is found, by the classes of nodes: the first such equality, else the first true and the first false term.
abbrev pub is_joined : List ℕ → Option (ℕ × ℕ) → Bool
is_joined cells None = false
is_joined cells (Some p) = own_or cells (object p.0) == own_or cells (object p.1)

abbrev pub first_equal : List ℕ → List Fact → Option AtomId
first_equal cells [] = None
first_equal cells (f ∷ facts) = if is_joined cells (unequal_by f) then Some f.lit.atom else first_equal cells facts

abbrev pub term_else : Option TermId → Option TermId → Option TermId
term_else None rest = rest
term_else (Some t) rest = Some t

abbrev pub first_term : Bool → List Fact → Option TermId
first_term sign [] = None
first_term sign (f ∷ facts) = term_else (term_read sign f) (first_term sign facts)

abbrev pub two_truths : List ℕ → Option TermId → Option TermId → Option Clash
two_truths cells None q = None
two_truths cells (Some p) None = None
two_truths cells (Some p) (Some q) = if own_or cells (object p.0) == own_or cells (object q.0) then Some (Clash.Truth p q) else None

abbrev pub truths_by : List ℕ → List Fact → Option Clash
truths_by cells facts = two_truths cells (first_term true facts) (first_term false facts)

-- what the facts join is of one class
abbrev pub AreHeld : List ℕ → List Fact → Type 0
AreHeld cells facts = All (λ (p : ℕ × ℕ). own_or cells p.0 ≡ own_or cells p.1) (pairs_of facts)

abbrev pub clash_else : Option AtomId → Option Clash → Option Clash
clash_else None rest = rest
clash_else (Some k) rest = Some (Clash.Facts k)

abbrev pub first_clash : List ℕ → List Fact → Option Clash
first_clash cells facts = clash_else (first_equal cells facts) (truths_by cells facts)
