-- A state of the search machine, and the changes of which its events are made.
use Rattle.std.specs.Prelude.{ℕ, ◌+◌, Bool, List, [], ◌∷◌, ◌++◌, length, map, take, Option, option_and_then}
use Rattle.fm_base.specs.declared.ids.Lit.{Lit}
use Rattle.fm_base.specs.declared.ids.Reader.{Reader}
use Rattle.fm_bank.specs.declared.atom.Atom.{Atom}
use Rattle.fm_bank.specs.declared.clause.ClauseSet.{ClauseSet}
use Rattle.fm_bank.specs.declared.literal.Literal.{Literal}
use Rattle.fm_bank.specs.Interning.{Held, find_atom, lit_in, with_atom, with_atoms}
use Rattle.fm_trail.specs.declared.entry.Entry.{Entry}
use Rattle.fm_trail.specs.Trail.{decision, head_of, heads_back, implied, read_on, up_to, value_of, with_entry}
pub use Rattle.fm_trail.specs.Trail.{Held as Trail}

abbrev pub Clause : Type 0
Clause = List Lit

-- what is searched for a model of: clauses over a signature, the last of whose symbols are the fresh constants
abbrev pub Problem : Type 0
Problem = ClauseSet

pub record Budget : Type 0 where
  pub instances : ℕ
  pub decisions : ℕ

-- The test that a sort has, where it has one: k + 1 classes by their oldest terms, and two of them that aren't apart,
-- where it isn't a clique.
pub record Pick : Type 0 where
  pub terms : List ℕ
  pub pair : Option (ℕ × ℕ)

-- The bound, whether the phase is the free one, the registered terms and the known atoms in the order of their numbers,
-- the clause list, the trail with the four heads, the added instances, the spent counts, and the test of each sort.
pub record State : Type 0 where
  pub bound : ℕ
  pub free : Bool
  pub held : Held
  pub clauses : List Clause
  pub trail : Trail
  pub added : List (ℕ × List ℕ)
  pub instances : ℕ
  pub decisions : ℕ
  pub picks : List (Option Pick)

-- what a reader has read
abbrev pub read_by : Reader → State → List Entry
read_by r s = take (head_of s.trail.heads r) s.trail.entries

abbrev pub value_by : List Entry → ℕ → Option Bool
value_by es n = value_of es (record { 0 = n })

-- the value of an atom by the trail, none where the atom isn't known
abbrev pub atom_value : State → Atom → Option Bool
atom_value s a = option_and_then (value_by s.trail.entries) (find_atom s.held.atoms a)

-- The changes: an atom becomes known, or those of some literals do;
abbrev pub know : Atom → State → State
know a s = record s { held = record s.held { atoms = with_atom s.held.atoms a } }

abbrev pub know_all : List Literal → State → State
know_all ls s = record s { held = record s.held { atoms = with_atoms s.held.atoms ls } }

-- a literal is put on, as a decision or by the clause of this number;
abbrev pub put_decision : Lit → State → State
put_decision l s = record s { trail = with_entry s.trail (decision s.trail.entries l) }

abbrev pub put : Lit → ℕ → State → State
put l n s = record s { trail = with_entry s.trail (implied s.trail.entries l n) }

-- a reader goes on by one entry;
abbrev pub read_one : Reader → State → State
read_one r s = record s { trail = read_on s.trail r }

-- the trail goes back to a level, and no head stays past its end;
abbrev pub trail_back : ℕ → Trail → Trail
trail_back level t = record { entries = up_to level t.entries; heads = heads_back (length (up_to level t.entries)) t.heads }

abbrev pub back_to : ℕ → State → State
back_to level s = record s { trail = trail_back level s.trail }

-- a clause is added, by its literals or by those of atoms, which become known.
abbrev pub with_clause : Clause → State → State
with_clause c s = record s { clauses = s.clauses ++ c ∷ [] }

abbrev pub with_literals : List Literal → State → State
with_literals ls s = with_clause (map (lit_in (with_atoms s.held.atoms ls)) ls) (know_all ls s)

abbrev pub decided : State → State
decided s = record s { decisions = s.decisions + 1 }
