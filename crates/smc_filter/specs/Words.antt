-- Numbers and days in one word of a row, and how they compare.
use Rattle.std.specs.Prelude.{◌≡◌, ℕ, ℤ, ◌<◌, Bool, List, [], ◌∷◌, slice_index}
use Rattle.std.specs.Ordering.{int_cmp}
use Rattle.smc_types.specs.Rows as rows
use Rattle.smc_types.specs.declared.column.FieldType.{FieldType}
use Rattle.smc_plan.specs.Leaves.{leaves_words}
use Rattle.smc_plan.specs.declared.leaf.Leaf.{Leaf}
use Rattle.smc_meaning.specs.Comparing.{compare}
use Rattle.smc_meaning.specs.Groups.{units_of}
use Rattle.smc_meaning.specs.Kept.{holds}
use Rattle.smc_meaning.specs.Values.{Cell, cell_of}
use Rattle.smc_filter.specs.declared.word.Word.{Word}

-- the units in the word of a column of numbers or days
abbrev pub unit_in : FieldType → ℕ → ℤ
unit_in kind word = units_of (cell_of kind (rows.value_of kind (word ∷ [])))

-- the value in the words of a column compares with a constant as its units do with these
abbrev pub ComparesAs : FieldType → Cell → ℤ → Type 0
ComparesAs kind constant units =
    (words : List ℕ) → compare (cell_of kind (rows.value_of kind words)) constant ≡ int_cmp (unit_in kind (slice_index words 0)) units

-- whether the number or the day in the word of a row is as the operator says
abbrev pub meets_word : Word → List ℕ → Bool
meets_word word words = holds word.op (int_cmp (unit_in word.kind (slice_index words word.at)) word.units)

-- the word stands in a row of these leaves
abbrev pub FitsWord : List Leaf → Word → Type 0
FitsWord leaves word = word.at < leaves_words leaves
