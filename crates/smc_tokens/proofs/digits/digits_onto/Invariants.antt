use Rattle.std.proofs.Common.{◌≡◌, ◌+◌, ◌*◌, ◌^◌, ◌≤◌, drop}
use Rattle.std.specs.Str.Parse.{digits_value_after}
use Rattle.smc_tokens.proofs.digits.digits_onto.Given as goal

abbrev pub invariant-loop-digit : goal.invariant-loop-digit
invariant-loop-digit l = record {
  value : digits_value_after 10 l.value (drop l.digit-index l.digits) ≡ digits_value_after 10 l.fn.before l.digits;
  bound : l.value + 1 ≤ (l.fn.before + 1) * 10 ^ l.digit-index;
}
