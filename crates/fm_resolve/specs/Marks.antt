-- A set of literals by marks, one for each literal, and the list of those that were ever marked.
use Rattle.std.specs.Prelude.{◌≡◌, ◌<◌, ◌==◌, Bool, true, false, ◌&&◌, not, cond, List, length, slice_index_or}
use Rattle.std.specs.List.{filter, list_any}
use mathlib.Core.Bool.{beq}
use Rattle.fm_base.specs.declared.ids.Lit.{Lit}
use Rattle.fm_resolve.specs.declared.marks.Mark.{Mark}
use Rattle.fm_resolve.specs.declared.marks.Marks.{Marks}
use Rattle.fm_resolve.specs.Chains.{Has}

abbrev pub is_same : Lit → Lit → Bool
is_same k l = k.atom.0 == l.atom.0 && beq k.positive l.positive

abbrev pub never_marked : Mark
never_marked = Mark.Never

abbrev pub mark_of : Marks → Lit → Mark
mark_of m l = cond l.positive (slice_index_or m.positive.items l.atom.0 Mark.Never) (slice_index_or m.negative.items l.atom.0 Mark.Never)

abbrev pub is_on : Mark → Bool
is_on Mark.Never = false
is_on Mark.On = true
is_on Mark.Off = false

abbrev pub is_never : Mark → Bool
is_never Mark.Never = true
is_never Mark.On = false
is_never Mark.Off = false

-- the literal is in the set
abbrev pub is_in : Marks → Lit → Bool
is_in m l = is_on (mark_of m l)

-- the set, as a list
abbrev pub members : Marks → List Lit
members m = filter (is_in m) m.touched.items

-- there is a mark for the literal
abbrev pub HasMark : Marks → Lit → Type 0
HasMark m l = (l.atom.0 < length m.positive.items) × (l.atom.0 < length m.negative.items)

-- what was ever marked is in the list
abbrev pub Covers : Marks → Type 0
Covers m = (l : Lit) → is_never (mark_of m l) ≡ false → Has m.touched.items l

-- nothing is marked
abbrev pub IsClean : Marks → Type 0
IsClean m = (l : Lit) → is_never (mark_of m l) ≡ true

pub record SameMarks (old new : Marks) : Type 0 where
  pub positive : length new.positive.items ≡ length old.positive.items
  pub negative : length new.negative.items ≡ length old.negative.items

-- whether a literal is in a list, and in it and another one
abbrev pub is_member : List Lit → Lit → Bool
is_member lits k = list_any (λ l. is_same l k) lits

abbrev pub is_member_but : List Lit → Lit → Lit → Bool
is_member_but lits but k = list_any (λ l. is_same l k && not (is_same l but)) lits
