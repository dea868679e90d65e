use Rattle.std.proofs.Common.{◌≡◌, ◌<◌, ◌^◌, true, take}
use Rattle.std.specs.Char.{is_ascii_digit}
use Rattle.std.specs.List.{list_all}
use Rattle.smc_tbl.specs.Fields.{decimal_value}
use Rattle.smc_tbl.proofs.numbers.read_digits.Given as goal

-- the front is digits, and this is their value
abbrev pub invariant-loop-digit : goal.invariant-loop-digit
invariant-loop-digit l = record {
  digits : list_all is_ascii_digit (take l.digit-index l.digits) ≡ true;
  value : l.value ≡ decimal_value (take l.digit-index l.digits);
  bound : l.value < 10 ^ l.digit-index;
}
