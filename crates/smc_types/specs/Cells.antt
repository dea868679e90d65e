-- Which columns have a number in their word.
use Rattle.std.specs.Prelude.{Bool, true, false}
use Rattle.smc_types.specs.declared.column.FieldType.{FieldType}
use Rattle.smc_types.specs.declared.column.FieldType.TheVariants.{Count, Amount, Rate, Day, Text, RefTo}

-- the values of the column are numbers
abbrev pub is_number : FieldType → Bool
is_number Count = true
is_number Amount = true
is_number Rate = true
is_number Day = false
is_number (Text bytes) = false
is_number (RefTo table) = false
