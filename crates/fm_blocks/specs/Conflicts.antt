-- The closure of a line `e`, over a list of the subterms.
use Rattle.std.specs.Prelude.{ℕ, ◌⊎◌, Bool, true, false, List}
use Rattle.std.specs.List.{list_any}
use Rattle.fm_base.specs.declared.ids.TermId.{TermId}
use Rattle.fm_bank.specs.Closure.{object, shapes_of}
use Rattle.fm_bank.specs.Terms.{Term, numbers}
use Rattle.fm_bank.specs.declared.atom.Atom.{Atom}
use Rattle.fm_bank.specs.declared.literal.Literal.{Literal}
use Rattle.fm_cert.specs.Lines.{Clause, JoinsSome}
use Rattle.fm_closure.specs.Facts.{ClashesOver, facts_in}
use Rattle.fm_closure.specs.declared.equations.Equations.{Equations}

abbrev pub pair_numbers : TermId × TermId → ℕ × ℕ
pair_numbers p = (p.0.0, p.1.0)

-- one of the literals is a positive equality whose sides follow equal
abbrev pub JoinsSomeOver : List Term → List TermId → Equations → Clause → Type 0
JoinsSomeOver terms over eqs lits = JoinsSome (shapes_of terms (numbers over)) (facts_in eqs) lits

-- yes and no are joined, or the sides of a positive equality are
abbrev pub ClosesOver : List Term → List TermId → Equations → Clause → Type 0
ClosesOver terms over eqs lits = ClashesOver terms over eqs ⊎ JoinsSomeOver terms over eqs lits

-- the same by a test of what follows equal
abbrev pub joins_by : (ℕ → ℕ → Bool) → Bool → Atom → Bool
joins_by same true (Atom.Equal a b) = same (object a.0) (object b.0)
joins_by same true (Atom.Pred t) = false
joins_by same true (Atom.Card s k) = false
joins_by same true (Atom.Bound n) = false
joins_by same false atom = false

abbrev pub joins_some_by : (ℕ → ℕ → Bool) → Clause → Bool
joins_some_by same lits = list_any (λ (l : Literal). joins_by same l.positive l.atom) lits
