use Rattle.std.proofs.Common.{◌≡◌, false, drop}
use Rattle.fm_sexp.specs.Pieces.{text_from}
use Rattle.fm_sexp.proofs.pieces.text_len.Given as goal

abbrev pub invariant-loop-at : goal.invariant-loop-at
invariant-loop-at l = text_from 0 false l.rest ≡ text_from l.at l.paired (drop l.at l.rest)
