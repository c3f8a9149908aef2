-- Lemmas of congruence closure: clauses that show an equality by opposites of literals that were read, each with a support
-- by which a line of a certificate shows the same.
use Rattle.std.specs.Prelude.{◌≡◌, ◌⊎◌, ◌<◌, ℕ, Bool, true, List, length}
use Rattle.std.specs.List.{All, Contains}
use Rattle.fm_base.specs.Resolution.{AreDistinct, Has}
use Rattle.fm_base.specs.declared.ids.TermId.{TermId}
use Rattle.fm_bank.specs.Closure.{AreSides, Follows, object, shapes_of}
use Rattle.fm_bank.specs.Interning.{Held, first_places, is_atom}
use Rattle.fm_bank.specs.Terms.{numbers}
use Rattle.fm_bank.specs.declared.atom.Atom.{Atom}
use Rattle.fm_bank.specs.declared.literal.Literal.{Literal}
use Rattle.fm_cert.specs.Lines.{IsConflict}
use Rattle.fm_cong.specs.Facts.{pairs_of, unequal_of}
use Rattle.fm_cong.specs.Held.{AreEqual}
use Rattle.fm_cong.specs.Held.{Held as Graph}
use Rattle.fm_readers.specs.declared.due.Unequal.{Unequal}
use Rattle.fm_steps.specs.Content.{ShowsEquality, facts_in, ground_literals_of, opposites}
use Rattle.fm_steps.specs.Lemmas.{AllRead, OthersRead}
use Rattle.fm_steps.specs.Sizes.{lit}
use Rattle.fm_trail.specs.declared.entry.Entry.{Entry}

-- by opposites of literals of the entries alone
pub record ShowsClash (held : Held) (es : List Entry) (ls : List Literal) (support : List TermId) : Type 0 where
  pub read : AllRead (ground_literals_of held.atoms es) ls
  pub shows : ShowsEquality held ls
  pub once : AreDistinct ls
  pub conflict : IsConflict held.sig held.terms ls (numbers support)

-- by such and one literal more, which it decides
pub record ShowsValue (held : Held) (es : List Entry) (a : Atom) (positive : Bool) (ls : List Literal) (support : List TermId) : Type 0 where
  pub has : Has ls (lit positive a)
  pub read : OthersRead (ground_literals_of held.atoms es) ls (lit positive a)
  pub shows : ShowsEquality held ls
  pub once : AreDistinct ls
  pub conflict : IsConflict held.sig held.terms ls (numbers support)

-- an atom over the terms of the bank
abbrev pub IsAtom : Held → Atom → Type 0
IsAtom held a = is_atom held.sig held.terms a ≡ true

-- Two nodes are equal because of some literals of the entries, by congruence over the support alone, and the opposites of
-- these are put behind others.
pub record PutsReasons (held : Held) (es : List Entry) (a b : ℕ) (old new : List Literal) (support : List TermId) : Type 0 where
  pub because : List Literal
  pub read : (k : Literal) → Has because k → Has (ground_literals_of held.atoms es) k
  pub shows : Follows (shapes_of held.terms (numbers support)) (facts_in because) a b
  pub put : new ≡ first_places old (opposites because)
  pub there : All (λ n. n < length held.terms) (numbers support)

-- Of the sides of a pair one is equal to each of two terms.
pub record IsBetween (g : Graph) (a b : TermId) (pair : TermId × TermId) (w : Unequal) : Type 0 where
  pub left : w.left ≡ pair.0
  pub right : w.right ≡ pair.1
  pub near : AreEqual g (object a.0) (object w.near.0)
  pub far : AreEqual g (object b.0) (object w.far.0)
  pub ways : ((w.near ≡ w.left) × (w.far ≡ w.right)) ⊎ ((w.near ≡ w.right) × (w.far ≡ w.left))

abbrev pub HasNoSides : Graph → TermId → TermId → TermId × TermId → Type 0
HasNoSides g a b pair =
    AreSides g.shapes (pairs_of g.facts) a.0 b.0 (pair.0.0, pair.1.0) ⊎ AreSides g.shapes (pairs_of g.facts) b.0 a.0 (pair.0.0, pair.1.0) → ⊥

-- and the pair was read as unequal
pub record IsWitness (g : Graph) (a b : TermId) (w : Unequal) : Type 0 where
  pub read : Contains (unequal_of g.facts) (w.left.0, w.right.0)
  pub between : IsBetween g a b (w.left, w.right) w
