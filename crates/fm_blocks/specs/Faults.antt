-- The first fault of a certificate: the line of the text at which it isn't good, and the rule that the line breaks. Lines are
-- numbered from 1. First the whole text is read; then it goes block by block and line by line, and the ending of a block comes
-- behind the lines of its model.
use Rattle.std.specs.Prelude.{◌≡◌, ◌≢◌, ℕ, ◌+◌, ◌⊎◌, List, [], ◌∷◌, length, Option, Some, None}
use Rattle.fm_cert.specs.Claims.{ClaimHolds, HasTable, IsGoodBlock, IsGoodCertificate, IsGoodEnding}
use Rattle.fm_cert.specs.Lines.{AreGoodLines, Clause, Made, Makes, Problem, nothing}
use Rattle.fm_cert.specs.Outside.{IsOutside, Spells}
use Rattle.fm_cert.specs.Rows.{rows_of_block}
use Rattle.fm_cert.specs.declared.block.Block.{Block}
use Rattle.fm_cert.specs.declared.block.Claim.{Claim}
use Rattle.fm_cert.specs.declared.block.Line.{Line}
use Rattle.fm_blocks.specs.ModelLines.{bad_in_model}
use Rattle.fm_blocks.specs.declared.verdict.Fault.{Fault}
use Rattle.fm_blocks.specs.declared.verdict.Rule.{Rule}

abbrev pub rule_of : Line → Rule
rule_of (Line.Term f args) = Rule.T
rule_of (Line.Equality lits support) = Rule.E
rule_of (Line.Cardinality s k ts) = Rule.C
rule_of (Line.OrderCard s k) = Rule.O
rule_of (Line.OrderBound n) = Rule.O
rule_of (Line.Instance c subst) = Rule.I
rule_of (Line.Sum n ks) = Rule.S
rule_of (Line.OrderZero s) = Rule.O
rule_of (Line.Resolution first steps) = Rule.R

abbrev pub fault_at : ℕ → Rule → Fault
fault_at line rule = record { line = line; rule = rule }

-- a line that isn't good after what was made, whatever it might make
abbrev pub IsBadLine : Problem → Made → Line → Type 0
IsBadLine p made line = (after : Made) → Makes p made line after → ⊥

-- the first bad line, where the first one is the line `at` of the text
abbrev pub IsFirstBad : Problem → Made → ℕ → List Line → Fault → Type 0
IsFirstBad p made at [] fault = ⊥
IsFirstBad p made at (line ∷ lines) fault = (IsBadLine p made line × (fault ≡ fault_at at (rule_of line))) ⊎ ((after : Made) × Makes p made line after × IsFirstBad p after (at + 1) lines fault)

-- the first bad line of the model behind an ending, whose line `q` is the line `at`
abbrev pub bad_behind : Problem → ℕ → Claim → Option ℕ
bad_behind p at Claim.Unsat = None
bad_behind p at (Claim.Sat sum model) = bad_in_model p.sig (at + 1) model
bad_behind p at (Claim.Unknown instances decisions) = None

-- a bad line of the model, or else an ending that isn't good
abbrev pub IsEndingFault : Problem → List Clause → ℕ → Claim → Option ℕ → Fault → Type 0
IsEndingFault p clauses at claim (Some line) fault = fault ≡ fault_at line Rule.M
IsEndingFault p clauses at claim None fault = (IsGoodEnding p clauses claim → ⊥) × (fault ≡ fault_at at Rule.Q)

-- the line `q` of a block whose line `b` is the line `at`
abbrev pub ending_line : ℕ → Block → ℕ
ending_line at block = at + 1 + length block.lines

-- the first fault of a block whose line `b` is the line `at`: a bad line, or a fault of the ending behind good lines
abbrev pub IsBlockFault : Problem → ℕ → Block → Fault → Type 0
IsBlockFault p at block fault = IsFirstBad p nothing (at + 1) block.lines fault ⊎ ((made : Made) × AreGoodLines p nothing block.lines made × IsEndingFault p made.clauses (ending_line at block) block.claim (bad_behind p (ending_line at block) block.claim) fault)

-- the first fault of the blocks numbered from k on, where the first one's line `b` is the line `at`: a block out of its place
-- or without a problem, or else a fault within it or behind it
abbrev pub IsFaultFrom : ℕ → ℕ → List Problem → List Block → Fault → Type 0
IsFaultFrom k at ps [] fault = ⊥
IsFaultFrom k at [] (b ∷ bs) fault = fault ≡ fault_at at Rule.B
IsFaultFrom k at (p ∷ ps) (b ∷ bs) fault = ((b.number ≢ k) × (fault ≡ fault_at at Rule.B)) ⊎ ((b.number ≡ k) × (IsBlockFault p at b fault ⊎ (IsGoodBlock p b × IsFaultFrom (k + 1) (at + length (rows_of_block b)) ps bs fault)))

-- the text's first fault, for the problems of a script's `check-sat` commands
abbrev pub IsTextFault : List ℕ → Fault → Type 0
IsTextFault text fault = (line : ℕ) × IsOutside text line × (fault ≡ fault_at line Rule.Text)

abbrev pub IsFirstFault : List Problem → List ℕ → Fault → Type 0
IsFirstFault problems text fault = IsTextFault text fault ⊎ ((blocks : List Block) × Spells text blocks × IsFaultFrom 0 2 problems blocks fault)

-- the text is a good certificate
abbrev pub IsGoodText : List Problem → List ℕ → List Block → Type 0
IsGoodText problems text blocks = Spells text blocks × IsGoodCertificate problems blocks

-- A certificate isn't both good and at fault.
abbrev pub NotBoth : Type 0
NotBoth = (problems : List Problem) (text : List ℕ) (blocks : List Block) (fault : Fault) → IsGoodText problems text blocks → IsFirstFault problems text fault → ⊥

-- A certificate has one first fault.
abbrev pub OneFirstFault : Type 0
OneFirstFault = (problems : List Problem) (text : List ℕ) (fault other : Fault) → IsFirstFault problems text fault → IsFirstFault problems text other → fault ≡ other

-- the claim of each block holds of its problem
abbrev pub AllHold : List Problem → List Block → Type 0
AllHold ps [] = Unit {0}
AllHold [] (b ∷ bs) = ⊥
AllHold (p ∷ ps) (b ∷ bs) = ClaimHolds p b.claim × AllHold ps bs

abbrev pub AllHaveTables : List Problem → Type 0
AllHaveTables [] = Unit {0}
AllHaveTables (p ∷ ps) = HasTable p × AllHaveTables ps

-- Each claim of a good certificate holds in all interpretations, where the tables say what the assertions say.
abbrev pub GoodTextsHold : Type 0
GoodTextsHold = (problems : List Problem) (text : List ℕ) (blocks : List Block) → AllHaveTables problems → IsGoodText problems text blocks → AllHold problems blocks
