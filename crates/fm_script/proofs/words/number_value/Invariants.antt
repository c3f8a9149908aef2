use Rattle.std.proofs.Common.{◌≡◌, drop, Some}
use Rattle.fm_script.specs.Commands.{decimal_from}
use Rattle.fm_script.specs.Numerals.{fitting}
use Rattle.fm_script.proofs.words.number_value.Given as goal

abbrev pub invariant-loop-digit : goal.invariant-loop-digit
invariant-loop-digit l = record {
  so_far : decimal_from l.sum (drop l.digit-index l.digits) ≡ decimal_from 0 l.digits;
  fits : fitting l.sum ≡ Some l.sum;
}
