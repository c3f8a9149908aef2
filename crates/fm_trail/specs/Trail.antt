-- Assignments by a trail (Davis, Putnam, Logemann and Loveland; conflict-driven clause learning): the literals that
-- have got a value, in order, each with its level and its reason.
use Rattle.std.specs.Prelude.{◌≡◌, ℕ, suc, ◌+◌, ◌<◌, ◌≤◌, ◌==◌, Bool, true, false, not, ◌&&◌, if◌then◌else◌, nat_le, min, List, [], ◌∷◌, ◌++◌, map, length, slice_get, Option, Some, None}
use Rattle.std.specs.Option.{option_map}
use Rattle.std.specs.List.{range_with_len}
use mathlib.Core.Bool.{beq}
use Rattle.fm_base.specs.declared.ids.AtomId.{AtomId}
use Rattle.fm_base.specs.declared.ids.Lit.{Lit}
use Rattle.fm_base.specs.declared.ids.Reader.{Reader}
use Rattle.fm_trail.specs.declared.entry.Entry.{Entry}
use Rattle.fm_trail.specs.declared.entry.Why.{Why}
use Rattle.fm_trail.specs.declared.heads.Heads.{Heads}

-- the value of an atom: the sign of the entry with it
abbrev pub value_of : List Entry → AtomId → Option Bool
value_of [] a = None
value_of (e ∷ es) a = if e.lit.atom.0 == a.0 then Some e.lit.positive else value_of es a

-- the place of the entry with the atom
abbrev pub place_of : List Entry → AtomId → Option ℕ
place_of [] a = None
place_of (e ∷ es) a = if e.lit.atom.0 == a.0 then Some 0 else option_map suc (place_of es a)

abbrev pub is_value : Option Bool → Bool → Bool
is_value None b = false
is_value (Some c) b = beq c b

abbrev pub is_true : List Entry → Lit → Bool
is_true es l = is_value (value_of es l.atom) l.positive

abbrev pub is_false : List Entry → Lit → Bool
is_false es l = is_value (value_of es l.atom) (not l.positive)

abbrev pub is_none : Option Bool → Bool
is_none None = true
is_none (Some b) = false

-- the literal has no value
abbrev pub is_open : List Entry → Lit → Bool
is_open es l = is_none (value_of es l.atom)

-- each literal is false
abbrev pub are_false : List Entry → List Lit → Bool
are_false es [] = true
are_false es (l ∷ ls) = is_false es l && are_false es ls

-- the one literal that has no value, where all others are false
abbrev pub unit_of : List Entry → List Lit → Option Lit
unit_of es [] = None
unit_of es (l ∷ ls) = if is_false es l then unit_of es ls else (if is_open es l && are_false es ls then Some l else None)

abbrev pub is_decided : Why → Bool
is_decided Why.Decision = true
is_decided (Why.Clause c) = false

abbrev pub decisions_in : Entry → ℕ
decisions_in e = if is_decided e.why then 1 else 0

-- the present level: the number of decisions
abbrev pub level_of : List Entry → ℕ
level_of [] = 0
level_of (e ∷ es) = decisions_in e + level_of es

-- each entry has the number of decisions at or before it as its level; n of them came before
abbrev pub AreLevelled : ℕ → List Entry → Type 0
AreLevelled n [] = Unit {0}
AreLevelled n (e ∷ es) = (e.level ≡ n + decisions_in e) × AreLevelled e.level es

-- no atom has two entries
abbrev pub HasOneEntry : List Entry → Type 0
HasOneEntry es = (i j : ℕ) (e f : Entry) → slice_get es i ≡ Some e → slice_get es j ≡ Some f → e.lit.atom.0 ≡ f.lit.atom.0 → i ≡ j

-- each entry's atom is one of the first n
abbrev pub AreOver : ℕ → List Entry → Type 0
AreOver n es = (i : ℕ) (e : Entry) → slice_get es i ≡ Some e → e.lit.atom.0 < n

-- the level of a literal: that of the entry with its atom
abbrev pub level_on : List Entry → Lit → ℕ
level_on [] l = 0
level_on (e ∷ es) l = if e.lit.atom.0 == l.atom.0 then e.level else level_on es l

-- the entries of the levels up to this one
abbrev pub up_to : ℕ → List Entry → List Entry
up_to level [] = []
up_to level (e ∷ es) = if nat_le e.level level then e ∷ up_to level es else up_to level es

-- what stood there as each open level was opened
abbrev pub levels_of : List Entry → List (List Entry)
levels_of es = map (λ level. up_to level es) (range_with_len 0 (level_of es))

-- the entry of a literal that is decided next, and of one that a clause implies next
abbrev pub decision : List Entry → Lit → Entry
decision es l = record { lit = l; level = level_of es + 1; why = Why.Decision }

abbrev pub implied : List Entry → Lit → ℕ → Entry
implied es l clause = record { lit = l; level = level_of es; why = Why.Clause clause }

-- how many entries a reader has read
abbrev pub head_of : Heads → Reader → ℕ
head_of h Reader.Congruence = h.congruence
head_of h Reader.Regions = h.regions
head_of h Reader.Sum = h.sum
head_of h Reader.Instances = h.instances

abbrev pub with_head : Heads → Reader → ℕ → Heads
with_head h Reader.Congruence n = record h { congruence = n }
with_head h Reader.Regions n = record h { regions = n }
with_head h Reader.Sum n = record h { sum = n }
with_head h Reader.Instances n = record h { instances = n }

-- no head past the end
abbrev pub heads_back : ℕ → Heads → Heads
heads_back end h = record { congruence = min h.congruence end; regions = min h.regions end; sum = min h.sum end; instances = min h.instances end }

abbrev pub heads_at : ℕ → Heads
heads_at n = record { congruence = n; regions = n; sum = n; instances = n }

-- what a trail holds: its entries, and how many of them each reader has read
pub record Held : Type 0 where
  pub entries : List Entry
  pub heads : Heads

-- one entry more, which nobody has read
abbrev pub with_entry : Held → Entry → Held
with_entry h e = record { entries = h.entries ++ e ∷ []; heads = h.heads }

-- the literal of the first entry that the reader hasn't read
abbrev pub IsNext : Held → Reader → Lit → Type 0
IsNext h reader l = (e : Entry) × (slice_get h.entries (head_of h.heads reader) ≡ Some e) × (e.lit ≡ l)

-- the reader has read one entry more
abbrev pub read_on : Held → Reader → Held
read_on h reader = record { entries = h.entries; heads = with_head h.heads reader (head_of h.heads reader + 1) }

-- the places of the decisions, from a place on
abbrev pub openings : ℕ → List Entry → List ℕ
openings at [] = []
openings at (e ∷ es) = if is_decided e.why then at ∷ openings (at + 1) es else openings (at + 1) es

-- the table by atom tells the place of each entry
abbrev pub ArePlaced : List Entry → List ℕ → Type 0
ArePlaced entries places = (i : ℕ) (e : Entry) → slice_get entries i ≡ Some e → slice_get places e.lit.atom.0 ≡ Some i

abbrev pub AreWithin : Heads → ℕ → Type 0
AreWithin h end = (reader : Reader) → head_of h reader ≤ end

-- what the fields of a trail keep; `opened` are the places of the decisions, `places` the table by atom
pub record IsTrail (entries : List Entry) (opened places : List ℕ) (heads : Heads) : Type 0 where
  pub levels : AreLevelled 0 entries
  pub opened_at : opened ≡ openings 0 entries
  pub placed : ArePlaced entries places
  pub within : AreWithin heads (length entries)
