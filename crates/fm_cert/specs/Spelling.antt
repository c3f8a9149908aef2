-- The text of a certificate: the line `fmfcert 1`, then its blocks. Every line ends with a line feed.
use Rattle.std.specs.Prelude.{ℕ, Bool, true, false, List, [], ◌∷◌, ◌++◌, codes, decimal}
use Rattle.std.specs.List.{flat_map}
use Rattle.fm_base.specs.declared.interp.Interp.{Interp}
use Rattle.fm_base.specs.declared.interp.Table.{Table}
use Rattle.fm_base.specs.declared.ids.TermId.{TermId}
use Rattle.fm_bank.specs.declared.atom.Atom.{Atom}
use Rattle.fm_cert.specs.declared.block.Block.{Block}
use Rattle.fm_bank.specs.declared.literal.Literal.{Literal}
use Rattle.fm_cert.specs.declared.block.Claim.{Claim}
use Rattle.fm_cert.specs.declared.block.Line.{Line}

abbrev pub line_feed : List ℕ
line_feed = 10 ∷ []

unfoldable pub header : List ℕ
header = codes "fmfcert 1" ++ line_feed

abbrev pub spelling_of_number : ℕ → List ℕ
spelling_of_number n = 32 ∷ decimal n

abbrev pub spelling_of_numbers : List ℕ → List ℕ
spelling_of_numbers ns = flat_map spelling_of_number ns

abbrev pub spelling_of_sign : Bool → List ℕ
spelling_of_sign true = codes "+"
spelling_of_sign false = codes "-"

abbrev pub spelling_of_atom : Atom → List ℕ
spelling_of_atom (Atom.Equal a b) = codes "E" ++ decimal a.0 ++ codes "," ++ decimal b.0
spelling_of_atom (Atom.Pred t) = codes "P" ++ decimal t.0
spelling_of_atom (Atom.Card s k) = codes "C" ++ decimal s.0 ++ codes "," ++ decimal k
spelling_of_atom (Atom.Bound n) = codes "B" ++ decimal n

abbrev pub spelling_of_literal : Literal → List ℕ
spelling_of_literal l = codes " " ++ spelling_of_sign l.positive ++ spelling_of_atom l.atom

abbrev pub spelling_of_step : (Literal × ℕ) → List ℕ
spelling_of_step step = codes " " ++ spelling_of_sign step.0.positive ++ spelling_of_atom step.0.atom ++ spelling_of_number step.1

abbrev pub spelling_of_term : TermId → List ℕ
spelling_of_term t = spelling_of_number t.0

abbrev pub spelling_of_line : Line → List ℕ
spelling_of_line (Line.Term symbol args) = codes "t" ++ spelling_of_number symbol.0 ++ flat_map spelling_of_term args ++ line_feed
spelling_of_line (Line.Equality lits support) = codes "e" ++ flat_map spelling_of_literal lits ++ codes " /" ++ flat_map spelling_of_term support ++ line_feed
spelling_of_line (Line.Cardinality sort k terms) = codes "c" ++ spelling_of_number sort.0 ++ spelling_of_number k ++ flat_map spelling_of_term terms ++ line_feed
spelling_of_line (Line.OrderCard sort k) = codes "o c" ++ spelling_of_number sort.0 ++ spelling_of_number k ++ line_feed
spelling_of_line (Line.OrderBound n) = codes "o b" ++ spelling_of_number n ++ line_feed
spelling_of_line (Line.Instance clause terms) = codes "i" ++ spelling_of_number clause ++ flat_map spelling_of_term terms ++ line_feed
spelling_of_line (Line.Sum n ks) = codes "s" ++ spelling_of_number n ++ spelling_of_numbers ks ++ line_feed
spelling_of_line (Line.OrderZero s) = codes "o z" ++ spelling_of_number s.0 ++ line_feed
spelling_of_line (Line.Resolution first steps) = codes "r" ++ spelling_of_number first ++ flat_map spelling_of_step steps ++ line_feed

abbrev pub spelling_of_exception : (List ℕ × ℕ) → List ℕ
spelling_of_exception e = codes "x" ++ spelling_of_numbers e.0 ++ spelling_of_number e.1 ++ line_feed

abbrev pub spelling_of_table : Table → List ℕ
spelling_of_table t = codes "d" ++ spelling_of_number t.default ++ line_feed ++ flat_map spelling_of_exception t.except

abbrev pub spelling_of_model : Interp → List ℕ
spelling_of_model i = codes "z" ++ spelling_of_numbers i.sizes ++ line_feed ++ flat_map spelling_of_table i.tables

abbrev pub spelling_of_claim : Claim → List ℕ
spelling_of_claim Claim.Unsat = codes "q unsat" ++ line_feed
spelling_of_claim (Claim.Sat sum model) = codes "q sat" ++ spelling_of_number sum ++ line_feed ++ spelling_of_model model
spelling_of_claim (Claim.Unknown instances decisions) = codes "q unknown" ++ spelling_of_number instances ++ spelling_of_number decisions ++ line_feed

abbrev pub spelling_of_block : Block → List ℕ
spelling_of_block b = codes "b" ++ spelling_of_number b.number ++ line_feed ++ flat_map spelling_of_line b.lines ++ spelling_of_claim b.claim

abbrev pub spelling_of_certificate : List Block → List ℕ
spelling_of_certificate blocks = header ++ flat_map spelling_of_block blocks
