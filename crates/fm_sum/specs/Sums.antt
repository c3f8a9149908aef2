-- The sum bound: what the bounds read say of the sizes of sorts. A bound on a sort, read as false, asks for more elements
-- than it allows, and each sort has at least one.
use Rattle.std.specs.Prelude.{◌≡◌, ℕ, ◌+◌, ◌<◌, ◌≤◌, ◌^◌, ◌==◌, Bool, if◌then◌else◌, List, [], ◌∷◌, length, map, max, slice_set, sum, ◌++◌, Option, Some, None}
use Rattle.std.specs.List.{Contains, range_with_len, slice_index_or}
use Rattle.fm_sum.specs.Levels.{AreOpened, levels_of}
use Rattle.fm_bank.specs.declared.atom.Atom.{Atom}
use Rattle.fm_bank.specs.declared.literal.Literal.{Literal}
use Rattle.fm_sum.specs.declared.bound.Entry.{Entry}

-- the sort of a bound on a sort, and the least number of elements that passes it
abbrev pub passing : Atom → Option (ℕ × ℕ)
passing (Atom.Card s k) = Some (s.0, k + 1)
passing (Atom.Equal a b) = None
passing (Atom.Pred t) = None
passing (Atom.Bound n) = None

-- what a literal asks for: a false bound on a sort, that it be passed
abbrev pub asked : Literal → Option (ℕ × ℕ)
asked l = if l.positive then None else passing l.atom

abbrev pub least_by : Option (ℕ × ℕ) → ℕ → ℕ
least_by None s = 1
least_by (Some p) s = if p.0 == s then p.1 else 1

-- the least number of elements of a sort by the literals read
abbrev pub least_of : List Literal → ℕ → ℕ
least_of [] s = 1
least_of (l ∷ ls) s = max (least_by (asked l) s) (least_of ls s)

-- of all sorts together
abbrev pub least_sum : List Literal → ℕ → ℕ
least_sum read sorts = sum (map (least_of read) (range_with_len 0 sorts))

-- a bound on one of so many sorts, or on the sum
abbrev pub IsBoundOf : ℕ → Atom → Type 0
IsBoundOf sorts (Atom.Card s k) = s.0 < sorts
IsBoundOf sorts (Atom.Bound n) = Unit {0}
IsBoundOf sorts (Atom.Equal a b) = ⊥
IsBoundOf sorts (Atom.Pred t) = ⊥

-- the number after that of a bound on a sort can be written
abbrev pub CanPass : Atom → Type 0
CanPass (Atom.Card s k) = k + 1 < 2 ^ 64
CanPass (Atom.Bound n) = Unit {0}
CanPass (Atom.Equal a b) = Unit {0}
CanPass (Atom.Pred t) = Unit {0}

-- the reading in other words: the least k from 1 on such that no bound of k or more on the sort was read as false
abbrev pub IsReadFalse : List Literal → ℕ → ℕ → Type 0
IsReadFalse read s k = (l : Literal) × Contains read l × (asked l ≡ Some (s, k + 1))

pub record IsLeast (read : List Literal) (s : ℕ) (n : ℕ) : Type 0 where
  pub positive : 1 ≤ n
  pub above : (k : ℕ) → n ≤ k → IsReadFalse read s k → ⊥
  pub least : (m : ℕ) → 1 ≤ m → m < n → (k : ℕ) × (m ≤ k) × IsReadFalse read s k

-- what a sum bound holds: for how many sorts, what it has read, and what it had read as each open level was opened
pub record Held : Type 0 where
  pub sorts : ℕ
  pub read : List Literal
  pub levels : List (List Literal)

abbrev pub nothing_read : ℕ → Held
nothing_read sorts = record { sorts = sorts; read = []; levels = [] }

abbrev pub with_literal : Held → Atom → Bool → Held
with_literal b atom positive = record { sorts = b.sorts; read = b.read ++ record { positive = positive; atom = atom } ∷ []; levels = b.levels }

-- by the values of the sorts, the literals read, and how many had been read as each level was opened
abbrev pub held_in : List ℕ → List Literal → List ℕ → Held
held_in values read opened = record { sorts = length values; read = read; levels = levels_of read opened }

abbrev pub lit_of : Entry → Literal
lit_of e = e.lit

abbrev pub read_of : List Entry → List Literal
read_of entries = map lit_of entries

-- the values once a literal is read, and once it is taken back
abbrev pub raised : List ℕ → Option (ℕ × ℕ) → List ℕ
raised values None = values
raised values (Some p) = slice_set values p.0 (max (slice_index_or values p.0 0) p.1)

abbrev pub restored : List ℕ → Option (ℕ × ℕ) → ℕ → List ℕ
restored values None before = values
restored values (Some p) before = slice_set values p.0 before

abbrev pub before_of : List ℕ → Option (ℕ × ℕ) → ℕ
before_of values None = 0
before_of values (Some p) = slice_index_or values p.0 0

abbrev pub IsWithin : ℕ → Option (ℕ × ℕ) → Type 0
IsWithin sorts None = Unit {0}
IsWithin sorts (Some p) = p.0 < sorts

abbrev pub WasBefore : List Literal → Option (ℕ × ℕ) → ℕ → Type 0
WasBefore read None before = Unit {0}
WasBefore read (Some p) before = before ≡ least_of read p.0

-- the values are those of the literals read, and each entry knows what its sort's value was before
pub record AreValues (values : List ℕ) (entries : List Entry) : Type 0 where
  pub now : (s : ℕ) → s < length values → slice_index_or values s 0 ≡ least_of (read_of entries) s
  pub within : (front : List Entry) (e : Entry) (rest : List Entry) → entries ≡ front ++ e ∷ rest → IsWithin (length values) (asked e.lit)
  pub before : (front : List Entry) (e : Entry) (rest : List Entry) → entries ≡ front ++ e ∷ rest → WasBefore (read_of front) (asked e.lit) e.before

pub record IsSum (values : List ℕ) (entries : List Entry) (opened : List ℕ) : Type 0 where
  pub sums : AreValues values entries
  pub levels : AreOpened (length entries) opened
