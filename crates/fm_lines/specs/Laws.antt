-- How lines go on as a state does.
use Rattle.std.specs.Prelude.{◌≡◌, ℕ, true, List, [], ◌∷◌, ◌++◌, length}
use Rattle.fm_bank.specs.declared.literal.Literal.{Literal}
use Rattle.fm_cert.specs.Lines.{MakesClause}
use Rattle.fm_cert.specs.declared.block.Line.{Line}
use Rattle.fm_lines.specs.Naming.{AreStepsOver}
use Rattle.fm_sat.specs.Learning.{LearntBy, Steps}
use Rattle.fm_steps.specs.Facts.{AtomsAreKnown, IsLawful}
use Rattle.fm_steps.specs.Lines.{AreLinesOf, Certified, IsSorted, IsWellHeld, are_written, made_of, row_lines, searched}
use Rattle.fm_steps.specs.Picks.{Known, Settles}
use Rattle.fm_steps.specs.Rows.{LearnRow, Offer, Row}
use Rattle.fm_steps.specs.State.{Budget, Clause, State, with_literals}

-- with the lines of an event whose row is met
abbrev pub LinesGoOn : Type 0
LinesGoOn =
    (c : Certified) (user : ℕ) (b : Budget) (s : State) (k : Known) (o : Offer) (mid t : State) (lines : List Line) → IsSorted (searched c user)
    → IsLawful (searched c user) s → IsWellHeld (searched c user) s → are_written s ≡ true → AtomsAreKnown mid → (r : Row (searched c user) b s k o mid)
    → Settles mid t → AreLinesOf c s lines → AreLinesOf c t (lines ++ row_lines (searched c user) b s k o mid r)

-- with a line that makes the clause that is added
abbrev pub LemmasGoOn : Type 0
LemmasGoOn =
    (c : Certified) (s : State) (ls : List Literal) (line : Line) (lines : List Line) → AtomsAreKnown s → MakesClause c (made_of s) line ls
    → AreLinesOf c s lines → AreLinesOf c (with_literals ls s) (lines ++ line ∷ [])

-- also where the literal is put on, and the tests are chosen anew
abbrev pub LemmasSettle : Type 0
LemmasSettle =
    (c : Certified) (s : State) (ls : List Literal) (line : Line) (lines : List Line) (mid t : State) → AtomsAreKnown s → MakesClause c (made_of s) line ls
    → made_of mid ≡ made_of (with_literals ls s) → AtomsAreKnown mid → Settles mid t → AreLinesOf c s lines → AreLinesOf c t (lines ++ line ∷ [])

-- with none, where neither a term nor a clause is added
abbrev pub LinesStay : Type 0
LinesStay =
    (c : Certified) (s mid t : State) (lines : List Line) → made_of mid ≡ made_of s → AtomsAreKnown mid → Settles mid t → AreLinesOf c s lines
    → AreLinesOf c t lines

-- what is resolved in learning is over known atoms, and so in each such event
abbrev pub LearntStepsAreKnown : Type 0
LearntStepsAreKnown =
    (s : State) (n : ℕ) (steps : Steps) (lits : Clause) → AtomsAreKnown s → LearntBy s.clauses s.trail.entries n steps lits
    → AreStepsOver (length s.held.atoms) steps

abbrev pub LearnRowsAreKnown : Type 0
LearnRowsAreKnown = (s : State) (n : ℕ) (t : State) → AtomsAreKnown s → (r : LearnRow s n t) → AreStepsOver (length s.held.atoms) r.steps
