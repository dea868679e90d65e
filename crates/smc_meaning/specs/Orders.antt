-- The order of the rows of an answer.
use Rattle.std.specs.Prelude.{ℕ, List, [], ◌∷◌, take, Option, None, Some, slice_get, if◌then◌else◌}
use Rattle.std.specs.Ordering.{nat_cmp, ordering_then}
use Rattle.std.specs.declared.cmp.Ordering.{Ordering}
use Rattle.std.specs.declared.cmp.Ordering.TheVariants.{Equal}
use Rattle.std.specs.Option.{option_cmp}
use Rattle.std.specs.Cmp.Lexicographic.{slice_cmp}
use Rattle.smc_plan.specs.declared.plan.OrderKey.{OrderKey}
use Rattle.smc_meaning.specs.Comparing.{compare}
use Rattle.smc_meaning.specs.Sorting.{sorted}
use Rattle.smc_meaning.specs.Values.{Cell, number, day, text}

-- the sorts of values, of which a column has one alone
abbrev pub sort_of : Cell → ℕ
sort_of (number units scale) = 0
sort_of (day days) = 1
sort_of (text bytes) = 2

-- which of two values comes first that no column has together: numbers before days, days before texts, and numbers of fewer decimals first
abbrev pub sort_order : Cell → Cell → Ordering
sort_order (number one s) (number other t) = nat_cmp s t
sort_order one other = nat_cmp (sort_of one) (sort_of other)

-- the order of two values: those of one column as they compare
abbrev pub cell_order : Cell → Cell → Ordering
cell_order one other = ordering_then (sort_order one other) (compare one other)

-- the order of two columns; none is least
abbrev pub column_order : Option Cell → Option Cell → Ordering
column_order = option_cmp cell_order

-- the order of two rows by the column at a place, which every row has
abbrev pub order_at : (place : ℕ) → List (Option Cell) → List (Option Cell) → Ordering
order_at place one other = option_cmp column_order (slice_get one place) (slice_get other place)

-- the order of two rows by a key, which may be the other way round
abbrev pub key_order : OrderKey → List (Option Cell) → List (Option Cell) → Ordering
key_order key one other = if key.desc then order_at key.column other one else order_at key.column one other

-- the order of two rows by keys, the first before the later ones
abbrev pub keys_order : List OrderKey → List (Option Cell) → List (Option Cell) → Ordering
keys_order [] one other = Equal
keys_order (key ∷ keys) one other = ordering_then (key_order key one other) (keys_order keys one other)

-- the order of two rows: by the keys, then by all columns from the left
abbrev pub row_order : List OrderKey → List (Option Cell) → List (Option Cell) → Ordering
row_order keys one other = ordering_then (keys_order keys one other) (slice_cmp column_order one other)

-- the first so many, and all where no number is given
abbrev pub first_of : {X : Type 0} → Option ℕ → List X → List X
first_of None list = list
first_of (Some most) list = take most list

-- the first so many of these rows, in order
abbrev pub ordered : List OrderKey → Option ℕ → List (List (Option Cell)) → List (List (Option Cell))
ordered keys first rows = first_of first (sorted (row_order keys) rows)
