-- The numbers that fields spell, in words.
use Rattle.std.proofs.Common.{◌≡◌, ◌^◌, ◌<◌, ℕ, ℤ, pos, negsuc, neg_ℤ, unsigned_abs, ◌≤ℤ◌, ◌<ℤ◌, Bool, true, false, List, [], ◌∷◌, ◌++◌, Result, Ok, Err, OnOk, FitsSigned, ap, ◌∙◌, arith}
use Rattle.std.proofs.lemmas.Int.{ints}
use mir.Syntax.{w32, w64}
use Rattle.smc_types.specs.Days.{SpellsDay, IsDay}
use Rattle.smc_types.specs.Numbers.{moved}
use Rattle.smc_types.specs.declared.column.FieldType.TheVariants.{Count, Amount, Rate, Day}
use Rattle.smc_types.specs.declared.number.TheConstants.{OFFSET}
use Rattle.smc_types.specs.declared.row.Value.TheVariants.{Number as OfNumber, Day as OfDay}
use Rattle.smc_tbl.specs.Fields.{SpellsAmount, SpellsCount, SpellsRate, decimal_value, signed}
use Rattle.smc_tbl.specs.Words.{FieldAddsWords}
use Rattle.smc_tbl.proofs.FitLaws.{units-below, value-below}

-- a word was pushed, which is that of the number
pub push-adds : {T E : Type 0} (result : Result T E) (old new : List ℕ) (word right : ℕ) (B : Type 0) → word ≡ right → (new ≡ old ++ right ∷ [] → B)
    → OnOk result (new ≡ old ++ word ∷ []) → OnOk result B
push-adds (Ok x) old new word right B is then grown = then (grown ∙ ap (λ w. old ++ w ∷ []) is)
push-adds (Err e) old new word right B is then grown = tt

-- a number near 0 is an i64
pub small-fits : (number : ℤ) → neg_ℤ OFFSET ≤ℤ number → number <ℤ OFFSET → FitsSigned w64 number
small-fits (pos n) low high = record { sfits = omega (arith, ints) }
small-fits (negsuc n) low high = record { sfits = omega (arith, ints) }

-- and so is a day
pub day-fits : (day : ℤ) → IsDay day → FitsSigned w32 day
day-fits (pos n) is = record { sfits = omega (arith, ints, is.high) }
day-fits (negsuc n) is = record { sfits = omega (arith, ints, is.low) }

signed-range : (below : Bool) (units : ℕ) → units < 10 ^ 12 → (neg_ℤ OFFSET ≤ℤ signed below units) × (signed below units <ℤ OFFSET)
signed-range true units small = (omega (arith, ints), omega (arith, ints))
signed-range false units small = (omega (arith, ints), omega (arith, ints))

-- the numbers that fields spell are near 0
pub count-range : (field : List ℕ) (count : ℤ) → SpellsCount field count → (neg_ℤ OFFSET ≤ℤ count) × (count <ℤ OFFSET)
count-range field count spells =
    let small = value-below 1 12 field spells.digits in
    rw (spells.count_is) (signed-range false (decimal_value field) (omega arith))

pub amount-range : (field : List ℕ) (amount : ℤ) → SpellsAmount field amount → (neg_ℤ OFFSET ≤ℤ amount) × (amount <ℤ OFFSET)
amount-range field amount spells =
    let small = units-below 10 spells.units spells.number spells.number_is in
    rw (spells.amount_is) (signed-range spells.below spells.units (omega arith))

pub rate-range : (field : List ℕ) (rate : ℤ) → SpellsRate field rate → (neg_ℤ OFFSET ≤ℤ rate) × (rate <ℤ OFFSET)
rate-range field rate spells =
    let small = units-below 1 spells.units field spells.number_is in
    rw (spells.rate_is) (signed-range false spells.units (omega arith))

module _ (field old new : List ℕ) (number : ℤ) where
  -- the word of a number of each kind
  pub count-adds : SpellsCount field number → new ≡ old ++ unsigned_abs number ∷ [] → FieldAddsWords Count field old new
  count-adds spells grown = record { value = OfNumber number; spells = spells; text = tt; grown = grown }

  pub amount-adds : SpellsAmount field number → new ≡ old ++ moved number ∷ [] → FieldAddsWords Amount field old new
  amount-adds spells grown = record { value = OfNumber number; spells = spells; text = tt; grown = grown }

  pub rate-adds : SpellsRate field number → new ≡ old ++ moved number ∷ [] → FieldAddsWords Rate field old new
  rate-adds spells grown = record { value = OfNumber number; spells = spells; text = tt; grown = grown }

  pub day-adds : SpellsDay field number → new ≡ old ++ moved number ∷ [] → FieldAddsWords Day field old new
  day-adds spells grown = record { value = OfDay number; spells = spells; text = tt; grown = grown }
