-- What a column is: how many words of a record it takes, and whether it is a reference.
use Rattle.std.specs.Prelude.{ℕ, Bool, true, false, not, List, [], ◌∷◌, map, filter, count_by, sum_by, if◌then◌else◌}
use Rattle.std.specs.List.{list_all}
use Rattle.std.specs.Int.{div_ceil}
use Rattle.smc_types.specs.declared.column.Column.{Column}
use Rattle.smc_types.specs.declared.column.FieldType.{FieldType}
use Rattle.smc_types.specs.declared.column.FieldType.TheVariants.{Count, Amount, Rate, Day, Text, RefTo}
use Rattle.smc_types.specs.declared.column.TheConstants.{WORD_BYTES}

-- how many words of a record a column takes
abbrev pub width_of : FieldType → ℕ
width_of Count = 1
width_of Amount = 1
width_of Rate = 1
width_of Day = 1
width_of (Text bytes) = div_ceil bytes WORD_BYTES
width_of (RefTo table) = 1

-- how many words these columns take together
abbrev pub columns_width : List Column → ℕ
columns_width columns = sum_by (λ column. width_of column.kind) columns

-- whether it is the number of another object
abbrev pub is_reference : FieldType → Bool
is_reference Count = false
is_reference Amount = false
is_reference Rate = false
is_reference Day = false
is_reference (Text bytes) = false
is_reference (RefTo table) = true

-- how many of the columns are references
abbrev pub reference_count : List Column → ℕ
reference_count columns = count_by (λ column. is_reference column.kind) columns

-- how many of them are not, which is the length of a row
abbrev pub value_count : List Column → ℕ
value_count columns = count_by (λ column. not (is_reference column.kind)) columns

-- the types of those columns
abbrev pub value_kinds : List Column → List FieldType
value_kinds columns = map (λ column. column.kind) (filter (λ column. not (is_reference column.kind)) columns)

-- the references stand behind all other columns
abbrev pub references_last : List Column → Bool
references_last [] = true
references_last (column ∷ columns) =
    if is_reference column.kind then list_all (λ later. is_reference later.kind) columns else references_last columns
