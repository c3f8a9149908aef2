-- What has a spelling from which it can be read again: numbers below 2^64, the smaller term of an equality first, and
-- resolutions with a step.
use Rattle.std.specs.Prelude.{◌≢◌, ℕ, ◌^◌, ◌<◌, ◌≤◌, List, []}
use Rattle.std.specs.List.{AllByRecursion}
use Rattle.fm_base.specs.declared.ids.TermId.{TermId}
use Rattle.fm_base.specs.declared.interp.Table.{Table}
use Rattle.fm_bank.specs.declared.atom.Atom.{Atom}
use Rattle.fm_bank.specs.declared.literal.Literal.{Literal}
use Rattle.fm_cert.specs.declared.block.Block.{Block}
use Rattle.fm_cert.specs.declared.block.Claim.{Claim}
use Rattle.fm_cert.specs.declared.block.Line.{Line}

-- What the types leave open: an equality has the smaller term first, and a resolution has a step.
abbrev pub HasOrder : Atom → Type 0
HasOrder (Atom.Equal a b) = a.0 ≤ b.0
HasOrder (Atom.Pred t) = Unit {0}
HasOrder (Atom.Card s k) = Unit {0}
HasOrder (Atom.Bound n) = Unit {0}

abbrev pub IsOrdered : Literal → Type 0
IsOrdered l = HasOrder l.atom

abbrev pub IsOrderedStep : (Literal × ℕ) → Type 0
IsOrderedStep step = IsOrdered step.0

abbrev pub IsPrintable : Line → Type 0
IsPrintable (Line.Equality lits support) = AllByRecursion IsOrdered lits
IsPrintable (Line.Resolution first steps) = (steps ≢ []) × AllByRecursion IsOrderedStep steps
IsPrintable (Line.Term symbol args) = Unit {0}
IsPrintable (Line.Instance clause terms) = Unit {0}
IsPrintable (Line.Cardinality sort k terms) = Unit {0}
IsPrintable (Line.Sum n ks) = Unit {0}
IsPrintable (Line.OrderCard sort k) = Unit {0}
IsPrintable (Line.OrderBound n) = Unit {0}
IsPrintable (Line.OrderZero sort) = Unit {0}

abbrev pub IsNumber : ℕ → Type 0
IsNumber n = n < 2 ^ 64

abbrev pub FitsTerm : TermId → Type 0
FitsTerm t = IsNumber t.0

abbrev pub FitsAtom : Atom → Type 0
FitsAtom (Atom.Equal a b) = (a.0 ≤ b.0) × IsNumber b.0
FitsAtom (Atom.Pred t) = IsNumber t.0
FitsAtom (Atom.Card s k) = IsNumber s.0 × IsNumber k
FitsAtom (Atom.Bound n) = IsNumber n

abbrev pub FitsLiteral : Literal → Type 0
FitsLiteral l = FitsAtom l.atom

abbrev pub FitsStep : (Literal × ℕ) → Type 0
FitsStep step = FitsLiteral step.0 × IsNumber step.1

abbrev pub FitsLine : Line → Type 0
FitsLine (Line.Term symbol args) = IsNumber symbol.0 × AllByRecursion FitsTerm args
FitsLine (Line.Instance clause terms) = IsNumber clause × AllByRecursion FitsTerm terms
FitsLine (Line.Equality lits support) = AllByRecursion FitsLiteral lits × AllByRecursion FitsTerm support
FitsLine (Line.Cardinality sort k terms) = IsNumber sort.0 × IsNumber k × AllByRecursion FitsTerm terms
FitsLine (Line.Sum n ks) = IsNumber n × AllByRecursion IsNumber ks
FitsLine (Line.OrderCard sort k) = IsNumber sort.0 × IsNumber k
FitsLine (Line.OrderBound n) = IsNumber n
FitsLine (Line.OrderZero sort) = IsNumber sort.0
FitsLine (Line.Resolution first steps) = IsNumber first × (steps ≢ []) × AllByRecursion FitsStep steps

pub record FitsException (e : List ℕ × ℕ) : Type 0 where
  pub tuple : AllByRecursion IsNumber e.0
  pub value : IsNumber e.1

pub record FitsTable (t : Table) : Type 0 where
  pub default : IsNumber t.default
  pub except : AllByRecursion FitsException t.except

abbrev pub FitsClaim : Claim → Type 0
FitsClaim Claim.Unsat = Unit {0}
FitsClaim (Claim.Sat sum model) = IsNumber sum × AllByRecursion IsNumber model.sizes × AllByRecursion FitsTable model.tables
FitsClaim (Claim.Unknown instances decisions) = IsNumber instances × IsNumber decisions

pub record FitsBlock (b : Block) : Type 0 where
  pub number : IsNumber b.number
  pub lines : AllByRecursion FitsLine b.lines
  pub claim : FitsClaim b.claim

abbrev pub AreSpelled : List Block → Type 0
AreSpelled blocks = AllByRecursion FitsBlock blocks

-- what has a spelling can be printed
abbrev pub ReadBlocksPrint : Type 0
ReadBlocksPrint = (b : Block) → FitsBlock b → AllByRecursion IsPrintable b.lines
