-- What fits can be printed.
use Rattle.std.proofs.Common.{ℕ, List, [], ◌∷◌}
use Rattle.std.specs.List.{AllByRecursion}
use Rattle.fm_bank.specs.declared.atom.Atom.{Atom}
use Rattle.fm_bank.specs.declared.literal.Literal.{Literal}
use Rattle.fm_cert.specs.declared.block.Line.{Line}
use Rattle.fm_cert.specs.Fits.{FitsAtom, FitsLine, FitsLiteral, FitsStep, HasOrder, IsOrdered, IsOrderedStep, IsPrintable, ReadBlocksPrint}

atom_ordered : (a : Atom) → FitsAtom a → HasOrder a
atom_ordered (Atom.Equal a b) h = h.0
atom_ordered (Atom.Pred t) h = tt
atom_ordered (Atom.Card s k) h = tt
atom_ordered (Atom.Bound n) h = tt

literals_ordered : (ls : List Literal) → AllByRecursion FitsLiteral ls → AllByRecursion IsOrdered ls
literals_ordered [] h = tt
literals_ordered (l ∷ ls) h = (atom_ordered l.atom h.0, literals_ordered ls h.1)

steps_ordered : (ss : List (Literal × ℕ)) → AllByRecursion FitsStep ss → AllByRecursion IsOrderedStep ss
steps_ordered [] h = tt
steps_ordered (s ∷ ss) h = (atom_ordered s.0.atom h.0.0, steps_ordered ss h.1)

line_printable : (l : Line) → FitsLine l → IsPrintable l
line_printable (Line.Term f args) h = tt
line_printable (Line.Instance c ts) h = tt
line_printable (Line.Equality ls ts) h = literals_ordered ls h.0
line_printable (Line.Cardinality s k ts) h = tt
line_printable (Line.Sum n ks) h = tt
line_printable (Line.OrderCard s k) h = tt
line_printable (Line.OrderBound n) h = tt
line_printable (Line.OrderZero s) h = tt
line_printable (Line.Resolution c ss) h = (h.1, steps_ordered ss h.2)

lines_printable : (ls : List Line) → AllByRecursion FitsLine ls → AllByRecursion IsPrintable ls
lines_printable [] h = tt
lines_printable (l ∷ ls) h = (line_printable l h.0, lines_printable ls h.1)

pub printable : ReadBlocksPrint
printable b h = lines_printable b.lines h.lines
