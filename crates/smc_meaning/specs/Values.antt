-- What an expression is worth in a row.
use Rattle.std.specs.Prelude.{ℕ, ◌+◌, ◌-◌, ◌^◌, max, ℤ, pos, ◌+ℤ◌, ◌-ℤ◌, ◌*ℤ◌, neg_ℤ, List, [], take, drop, Option, None, Some, slice_get}
use Rattle.smc_types.specs.Columns.{width_of}
use Rattle.smc_types.specs.Rows as rows
use Rattle.smc_types.specs.declared.column.FieldType.{FieldType}
use Rattle.smc_types.specs.declared.column.FieldType.TheVariants.{Count, Amount, Rate, Day, Text, RefTo}
use Rattle.smc_types.specs.declared.row.Value.{Value}
use Rattle.smc_types.specs.declared.row.Value.TheVariants.{Number as OfNumber, Day as OfDay, Text as OfText}
use Rattle.smc_plan.specs.Leaves.{leaves_words}
use Rattle.smc_plan.specs.Typed as typed
use Rattle.smc_plan.specs.Typed.{TypedTree}
use Rattle.smc_plan.specs.declared.leaf.Leaf.{Leaf}
use Rattle.smc_plan.specs.declared.kind.TheConstants.{HUNDREDTHS}

-- a value: so many units of which ten to the power of `scale` make one, days from 1970-01-01, or the bytes of a text
pub data Cell : Type 0 where
  number : (units : ℤ) (scale : ℕ) → Cell
  day : ℤ → Cell
  text : List ℕ → Cell

-- ---- reckoning; of two values that a plan does not put together, the first

-- units at a scale, brought to a larger one
abbrev pub units_at : (larger : ℕ) → ℤ → (scale : ℕ) → ℤ
units_at larger units scale = units *ℤ pos (10 ^ (larger - scale))

-- a sum: of two numbers at the larger of their scales, or a day and so many days
abbrev pub plus : Cell → Cell → Cell
plus (number one s) (number other t) = number (units_at (max s t) one s +ℤ units_at (max s t) other t) (max s t)
plus (day from) (number days s) = day (from +ℤ days)
plus one _ = one

-- a difference
abbrev pub less : Cell → Cell → Cell
less (number one s) (number other t) = number (units_at (max s t) one s -ℤ units_at (max s t) other t) (max s t)
less (day from) (number days s) = day (from -ℤ days)
less one _ = one

-- a product, with the decimals of both
abbrev pub times : Cell → Cell → Cell
times (number one s) (number other t) = number (one *ℤ other) (s + t)
times one _ = one

-- a number taken from nothing
abbrev pub negative : Cell → Cell
negative (number units scale) = number (neg_ℤ units) scale
negative one = one

-- ---- leaves

-- how many decimals the numbers of a column have
abbrev pub scale_of : FieldType → ℕ
scale_of Count = 0
scale_of Amount = HUNDREDTHS
scale_of Rate = HUNDREDTHS
scale_of Day = 0
scale_of (Text width) = 0
scale_of (RefTo table) = 0

-- the value of a column
abbrev pub cell_of : FieldType → Value → Cell
cell_of kind (OfNumber units) = number units (scale_of kind)
cell_of kind (OfDay days) = day days
cell_of kind (OfText bytes) = text bytes

-- the words of a leaf in a row, which stand behind those of the leaves before it
abbrev pub leaf_words : List Leaf → ℕ → Leaf → List ℕ → List ℕ
leaf_words leaves place leaf words = take (width_of leaf.kind) (drop (leaves_words (take place leaves)) words)

-- the value of the leaf at a place, where there is one
abbrev pub leaf_value : List Leaf → ℕ → Option Leaf → List ℕ → Cell
leaf_value leaves place None words = text []
leaf_value leaves place (Some leaf) words = cell_of leaf.kind (rows.value_of leaf.kind (leaf_words leaves place leaf words))

-- ---- expressions

-- the value of an expression in a row, given by the words of all leaves, one leaf behind the other
abbrev pub value_of : List Leaf → TypedTree → List ℕ → Cell
value_of leaves (typed.number units scale) words = number (pos units) scale
value_of leaves (typed.day days) words = day days
value_of leaves (typed.text bytes) words = text bytes
value_of leaves (typed.leaf place) words = leaf_value leaves place (slice_get leaves place) words
value_of leaves (typed.sum left right) words = plus (value_of leaves left words) (value_of leaves right words)
value_of leaves (typed.difference left right) words = less (value_of leaves left words) (value_of leaves right words)
value_of leaves (typed.product left right) words = times (value_of leaves left words) (value_of leaves right words)
value_of leaves (typed.minus of) words = negative (value_of leaves of words)
