-- The numbers that words spell.
use Rattle.std.specs.Prelude.{ℕ, ◌+◌, ◌-◌, ◌*◌, Bool, ◌&&◌, nat_lt, nat_le, if◌then◌else◌, List, length, fold, None, Some}
use Rattle.std.specs.declared.option.Option.{Option}
use Rattle.std.specs.Char.{is_ascii_digit}
use Rattle.std.specs.List.{list_all}
use Rattle.smc_lines.specs.declared.limits.TheConstants.{ZERO_DIGIT}

-- one or more decimal digits
abbrev pub is_number : List ℕ → Bool
is_number word = nat_lt 0 (length word) && list_all is_ascii_digit word

-- the number with one more digit behind it
abbrev pub then_digit : ℕ → ℕ → ℕ
then_digit value digit = 10 * value + (digit - ZERO_DIGIT)

-- the number that digits spell, the first digit the highest
abbrev pub decimal_value : List ℕ → ℕ
decimal_value digits = fold then_digit 0 digits

-- the number that a word spells, where it is at most so much
abbrev pub number_of : ℕ → List ℕ → Option ℕ
number_of most word = if is_number word && nat_le (decimal_value word) most then Some (decimal_value word) else None
