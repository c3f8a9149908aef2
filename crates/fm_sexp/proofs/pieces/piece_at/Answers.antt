use Rattle.std.proofs.Common.{sym}
use Rattle.fm_sexp.specs.Pieces.{is_symbol_byte}
use Rattle.fm_sexp.proofs.Runs.{some_run, digit_in_symbols}
use Rattle.fm_sexp.proofs.pieces.piece_at.Goals as goal

pub number_front-requires : goal.number_front-requires
number_front-requires c = some_run is_symbol_byte _ _ _ _ c.in-Some.ensures.cases.0 c.symbol_run-then-is_digit.ensures.run (digit_in_symbols _ (sym c.if-is_digit.ensures))
