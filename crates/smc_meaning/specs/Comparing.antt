-- How values compare.
use Rattle.std.specs.Prelude.{max}
use Rattle.std.specs.Ordering.{int_cmp, nat_cmp}
use Rattle.std.specs.declared.cmp.Ordering.{Ordering}
use Rattle.std.specs.declared.cmp.Ordering.TheVariants.{Equal}
use Rattle.std.specs.Cmp.Lexicographic.{slice_cmp}
use Rattle.smc_meaning.specs.Values.{Cell, number, day, text, units_at}

-- how two values compare: numbers at the larger of their scales, days, and texts by their bytes; a plan compares no others
abbrev pub compare : Cell → Cell → Ordering
compare (number one s) (number other t) = int_cmp (units_at (max s t) one s) (units_at (max s t) other t)
compare (day one) (day other) = int_cmp one other
compare (text one) (text other) = slice_cmp nat_cmp one other
compare _ _ = Equal
