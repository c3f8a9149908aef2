-- Numerals below 2^64.
use Rattle.std.specs.Prelude.{ℕ, ◌^◌, nat_lt, cond, Option, Some, None}
use Rattle.fm_script.specs.Commands.{decimal_of}
use Rattle.fm_script.specs.Shown.{Name, Numeral}

abbrev pub fitting : ℕ → Option ℕ
fitting n = cond (nat_lt n (2 ^ 64)) (Some n) None

abbrev pub numeral_of : Name → Option Numeral
numeral_of digits = cond (nat_lt (decimal_of digits.bytes) (2 ^ 64)) (Some (record { value = decimal_of digits.bytes; at = digits.at })) None
