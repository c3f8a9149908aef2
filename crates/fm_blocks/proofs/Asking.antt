-- A closure that was made is asked whether the literals of a line `e` can all be false.
use Rattle.std.proofs.Common.{◌≡◌, ◌⊎◌, ℕ, Bool, true, false, List, [], ◌∷◌, inl, inr, refl}
use Rattle.std.specs.Prelude.{◌||◌}
use Rattle.std.proofs.lemmas.Bool.{false≢true}
use Rattle.fm_base.specs.declared.ids.TermId.{TermId}
use Rattle.fm_bank.specs.Closure.{no, shapes_of, yes}
use Rattle.fm_bank.specs.Terms.{Term, numbers}
use Rattle.fm_bank.specs.declared.atom.Atom.{Atom}
use Rattle.fm_cert.specs.Lines.{Clause, Joins, JoinsSome}
use Rattle.fm_closure.specs.Facts.{IsClosureOver, facts_in}
use Rattle.fm_closure.specs.declared.equations.Equations.{Equations}
use Rattle.fm_blocks.specs.Conflicts.{ClosesOver, joins_by, joins_some_by}

either_of : (a b : Bool) → (a || b) ≡ true → (a ≡ true) ⊎ (b ≡ true)
either_of true b h = inl refl
either_of false b h = inr h

left_so : (a b : Bool) → a ≡ true → (a || b) ≡ true
left_so true b h = refl
left_so false b h = absurd (false≢true h)

right_so : (a b : Bool) → b ≡ true → (a || b) ≡ true
right_so true b h = refl
right_so false b h = h

module _ (terms : List Term) (over : List TermId) (eqs : Equations) (same : ℕ → ℕ → Bool) (closure : IsClosureOver terms over eqs same) where
  one_yes : (positive : Bool) (atom : Atom) → joins_by same positive atom ≡ true → Joins (shapes_of terms (numbers over)) (facts_in eqs) positive atom
  one_yes true (Atom.Equal a b) h = (closure _ _).0 h
  one_yes true (Atom.Pred t) h = absurd (false≢true h)
  one_yes true (Atom.Card s k) h = absurd (false≢true h)
  one_yes true (Atom.Bound n) h = absurd (false≢true h)
  one_yes false atom h = absurd (false≢true h)

  yes_one : (positive : Bool) (atom : Atom) → Joins (shapes_of terms (numbers over)) (facts_in eqs) positive atom → joins_by same positive atom ≡ true
  yes_one true (Atom.Equal a b) h = (closure _ _).1 h
  yes_one true (Atom.Pred t) h = absurd h
  yes_one true (Atom.Card s k) h = absurd h
  yes_one true (Atom.Bound n) h = absurd h
  yes_one false atom h = absurd h

  some_yes : (lits : Clause) → joins_some_by same lits ≡ true → JoinsSome (shapes_of terms (numbers over)) (facts_in eqs) lits
  some_yes [] h = absurd (false≢true h)
  some_yes (l ∷ ls) h = elim (either_of (joins_by same l.positive l.atom) (joins_some_by same ls) h) [ inl here ↦ inl (one_yes l.positive l.atom here) | inr rest ↦ inr (some_yes ls rest) ]

  yes_some : (lits : Clause) → JoinsSome (shapes_of terms (numbers over)) (facts_in eqs) lits → joins_some_by same lits ≡ true
  yes_some [] h = absurd h
  yes_some (l ∷ ls) h = elim h [ inl here ↦ left_so (joins_by same l.positive l.atom) (joins_some_by same ls) (yes_one l.positive l.atom here) | inr rest ↦ right_so (joins_by same l.positive l.atom) (joins_some_by same ls) (yes_some ls rest) ]

  pub decided_yes : (lits : Clause) → (same yes no || joins_some_by same lits) ≡ true → ClosesOver terms over eqs lits
  decided_yes lits h = elim (either_of (same yes no) (joins_some_by same lits) h) [ inl clash ↦ inl ((closure yes no).0 clash) | inr some ↦ inr (some_yes lits some) ]

  pub decided_no : (lits : Clause) → (same yes no || joins_some_by same lits) ≡ false → ClosesOver terms over eqs lits → ⊥
  decided_no lits h closes = elim closes [
    | inl clash ↦ absurd (cc (h, left_so (same yes no) (joins_some_by same lits) ((closure yes no).1 clash)))
    | inr some ↦ absurd (cc (h, right_so (same yes no) (joins_some_by same lits) (yes_some lits some)))
  ]
