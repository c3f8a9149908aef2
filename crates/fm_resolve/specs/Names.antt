-- Literals by number, and what the numbers stand for: a list of atoms.
use Rattle.std.specs.Prelude.{◌≡◌, List, map, length, slice_get, Option, Some, None}
use Rattle.std.specs.List.{AllByRecursion}
use Rattle.fm_base.specs.declared.ids.Lit.{Lit}
use Rattle.fm_bank.specs.Interning.{find_atom}
use Rattle.fm_bank.specs.declared.atom.Atom.{Atom}
use Rattle.fm_cert.specs.Lines.{Clause}
use Rattle.fm_bank.specs.declared.literal.Literal.{Literal}
use Rattle.fm_resolve.specs.declared.marks.Marks.{Marks}

abbrev pub atom_in : Option Atom → Atom
atom_in None = Atom.Bound 0
atom_in (Some a) = a

abbrev pub name : List Atom → Lit → Literal
name atoms l = record { positive = l.positive; atom = atom_in (slice_get atoms l.atom.0) }

abbrev pub names : List Atom → List Lit → Clause
names atoms ls = map (name atoms) ls

abbrev pub all_names : List Atom → List (List Lit) → List Clause
all_names atoms cs = map (names atoms) cs

-- the number of a literal is the place of its atom
pub record IsNumbered (atoms : List Atom) (l : Lit) : Type 0 where
  pub atom : Atom
  pub there : slice_get atoms l.atom.0 ≡ Some atom
  pub first : find_atom atoms atom ≡ Some l.atom.0

abbrev pub AreNumbered : List Atom → List Lit → Type 0
AreNumbered atoms ls = AllByRecursion (IsNumbered atoms) ls

abbrev pub AllNumbered : List Atom → List (List Lit) → Type 0
AllNumbered atoms cs = AllByRecursion (AreNumbered atoms) cs

-- there are two marks for each atom
pub record HasMarks (m : Marks) (atoms : List Atom) : Type 0 where
  pub positive : length m.positive.items ≡ length atoms
  pub negative : length m.negative.items ≡ length atoms
