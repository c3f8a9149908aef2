use Rattle.std.proofs.Common.{◌≡◌, ◌+◌, ◌≤◌, drop}
use Rattle.fm_sexp.specs.Places.{place_from}
use Rattle.fm_sexp.proofs.places.advance.Given as goal

abbrev pub invariant-loop-byte : goal.invariant-loop-byte
invariant-loop-byte l = record {
  value : place_from l.fn.start l.bytes ≡ place_from l.place (drop l.byte-index l.bytes);
  line : l.place.line ≤ l.fn.start.line + l.byte-index;
  column : l.place.column ≤ l.fn.start.column + l.byte-index;
}
