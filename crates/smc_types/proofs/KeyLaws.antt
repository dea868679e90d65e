-- After a put each number is still one that an object can have.
use Rattle.std.proofs.Common.{ℕ, Bool, true, false, cond, List, Option, Some, IfSome}
use Rattle.smc_words.specs.declared.number.Number.{Number}
use Rattle.smc_words.specs.Number.{FitsNumber}
use Rattle.smc_types.specs.Keys.{is_key, number_at, AreNumbers, Puts}

-- a choice of a number that fits and of what fits
either_fits : (test : Bool) (number : Number) (old : Option Number) → FitsNumber number → IfSome old FitsNumber → IfSome (cond test (Some number) old) FitsNumber
either_fits true number old fits are = fits
either_fits false number old fits are = are

-- a put of a number that fits leaves numbers that fit
pub numbers_stay : (old new : List ((ℕ × ℕ) × Number)) (table key : ℕ) (number : Number) → Puts old new table key number → FitsNumber number → AreNumbers old → AreNumbers new
numbers_stay old new table key number puts fits are other_table other_key =
    rw (puts other_table other_key) (either_fits (is_key (table, key) (other_table, other_key)) number (number_at old other_table other_key) fits (are other_table other_key))
