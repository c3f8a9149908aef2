-- The last lines at an answer.
use Rattle.std.specs.Prelude.{◌≡◌, ℕ, false, List, [], map, slice_get, Some}
use Rattle.fm_bank.specs.Interning.{Held, find_atom}
use Rattle.fm_bank.specs.Terms.{Term}
use Rattle.fm_bank.specs.declared.atom.Atom.{Atom}
use Rattle.fm_bank.specs.declared.literal.Literal.{Literal}
use Rattle.fm_cert.specs.Lines.{AreGoodLines, Made, nothing}
use Rattle.fm_cert.specs.declared.block.Line.{Line}
use Rattle.fm_steps.specs.Lines.{Certified, clause_in}
use Rattle.fm_steps.specs.State.{Clause}
use Rattle.fm_trail.specs.declared.entry.Entry.{Entry}

-- the terms and the clauses as what lines have made
abbrev pub made_by : Held → List Clause → Made
made_by held clauses = record { terms = held.terms; clauses = map (clause_in held.atoms) clauses }

-- good lines over these terms, whose clauses show it
pub record AreLinesThatShow (c : Certified) (terms : List Term) (lines : List Line) (Shown : List (List Literal) → Type 0) : Type 0 where
  pub made : Made
  pub good : AreGoodLines c nothing lines made
  pub same_terms : made.terms ≡ terms
  pub shown : Shown made.clauses

-- where the old lines make the terms and the clauses, the new ones make no further term, and their clauses show it
abbrev pub GoesOnTo : Held → List Clause → List Line → List Line → (List (List Literal) → Type 0) → Type 0
GoesOnTo held clauses old new Shown = (c : Certified) → AreGoodLines c nothing old (made_by held clauses) → AreLinesThatShow c held.terms new Shown

-- the empty clause stands among them
abbrev pub HasEmpty : List (List Literal) → Type 0
HasEmpty clauses = (i : ℕ) × (slice_get clauses i ≡ Some [])

-- the entry at this place has level 0 and makes the bound false
pub record IsRefutingAt (atoms : List Atom) (es : List Entry) (bound place : ℕ) : Type 0 where
  pub entry : Entry
  pub at : slice_get es place ≡ Some entry
  pub zero_level : entry.level ≡ 0
  pub negative : entry.lit.positive ≡ false
  pub atom : find_atom atoms (Atom.Bound bound) ≡ Some entry.lit.atom.0
