-- Values of one unit, at some places of a batch.
use Rattle.std.specs.Prelude.{ℕ, ℤ, pos, ◌+ℤ◌, ◌-ℤ◌, ◌*ℤ◌, List, [], ◌∷◌, fold, map, Option, None, Some}
use Rattle.smc_types.specs.Rows as rows
use Rattle.smc_types.specs.declared.column.FieldType.{FieldType}
use Rattle.smc_types.specs.declared.column.FieldType.TheVariants.{Count, Amount, Rate, Text, RefTo, Day as OfDay}
use Rattle.smc_plan.specs.declared.kind.TheConstants.{HUNDREDTHS}
use Rattle.smc_meaning.specs.Groups.{units_of}
use Rattle.smc_meaning.specs.Values.{Cell, cell_of, number, day}
use Rattle.smc_kernel.specs.declared.units.Reckoning.{Reckoning}
use Rattle.smc_kernel.specs.declared.units.Reckoning.TheVariants.{Plus, Less, Times}
use Rattle.smc_kernel.specs.declared.column.Column.{Column}
use Rattle.smc_kernel.specs.declared.column.Unit.{Unit as UnitOf}
use Rattle.smc_kernel.specs.declared.column.Unit.TheVariants.{Number, Day}

-- what comes of two numbers
abbrev pub reckoned : Reckoning → ℤ → ℤ → ℤ
reckoned (Plus left right) one other = one *ℤ left +ℤ other *ℤ right
reckoned (Less left right) one other = one *ℤ left -ℤ other *ℤ right
reckoned Times one other = one *ℤ other

-- what comes of the first of both lists, of the second of both, and so on
abbrev pub pairs : {A B C : Type 0} → (A → B → C) → List A → List B → List C
pairs made (one ∷ ones) (other ∷ others) = made one other ∷ pairs made ones others
pairs made ones others = []

-- all numbers together
abbrev pub all_of : List ℤ → ℤ
all_of units = fold (λ all unit. all +ℤ unit) (pos 0) units

-- so many units, as a value
abbrev pub cell_in : UnitOf → ℤ → Cell
cell_in (Number scale) units = number units scale
cell_in Day units = day units

-- the values of a column
abbrev pub values_in : Column → List Cell
values_in column = map (cell_in column.unit) column.units

-- ---- leaves

-- the units in the word of a column of numbers or days
abbrev pub unit_in : FieldType → ℕ → ℤ
unit_in kind word = units_of (cell_of kind (rows.value_of kind (word ∷ [])))

-- what the units of a column of numbers or days are
abbrev pub unit_of : FieldType → Option UnitOf
unit_of Count = Some (Number 0)
unit_of Amount = Some (Number HUNDREDTHS)
unit_of Rate = Some (Number HUNDREDTHS)
unit_of OfDay = Some Day
unit_of (Text width) = None
unit_of (RefTo table) = None
