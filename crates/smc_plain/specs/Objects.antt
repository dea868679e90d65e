-- What the commands on one object read and write in a world.
use Rattle.std.specs.Prelude.{ℕ, unsigned_abs, true, if◌then◌else◌, Option, None, Some, option_and_then, option_map, List, [], ◌∷◌, ◌++◌}
use Rattle.std.specs.Prelude.{codes, decimal, slice_get, slice_index}
use Rattle.smc_words.specs.declared.number.Number.{Number}
use Rattle.smc_model.specs.declared.event.Event.{Event}
use Rattle.smc_model.specs.declared.event.Event.TheVariants.{Remove, Write}
use Rattle.smc_model.specs.World.{World, is_present, world_after}
use Rattle.smc_query.specs.Trees.{Word}
use Rattle.smc_types.specs.Columns.{columns_width, value_kinds}
use Rattle.smc_types.specs.Records.{value_words}
use Rattle.smc_types.specs.Rows.{row_of}
use Rattle.smc_types.specs.declared.column.Column.{Column}
use Rattle.smc_types.specs.declared.column.FieldType.{FieldType}
use Rattle.smc_types.specs.declared.column.FieldType.TheVariants.{Count, Amount, Rate, Day, Text}
use Rattle.smc_types.specs.declared.row.Value.{Value}
use Rattle.smc_types.specs.declared.row.Value.TheVariants.{Number as OfNumber, Day as OfDay, Text as OfText}
use Rattle.smc_tbl.specs.Printed.{amount_text, hundredths_text}
use Rattle.smc_tbl.specs.declared.bytes.TheConstants.{BAR}
use Rattle.smc_meaning.specs.Dates.{day_text}
use Rattle.smc_visits.specs.Still.{words_in}
use Rattle.smc_script.specs.Tables.{column_at}
use Rattle.smc_load.specs.Loading.{place_of}
use Rattle.smc_replies.specs.Objects.{found_line, null_line}

-- ---- get

-- the text of a value in a column of this type
abbrev pub value_text : FieldType → Value → List ℕ
value_text Count (OfNumber count) = decimal (unsigned_abs count)
value_text Amount (OfNumber amount) = amount_text amount
value_text Rate (OfNumber rate) = hundredths_text (unsigned_abs rate)
value_text Day (OfDay day) = day_text day
value_text (Text width) (OfText bytes) = bytes
value_text kind value = []

-- the text of a row: each value in its column, with a bar behind it
abbrev pub row_text : List FieldType → List Value → List ℕ
row_text (kind ∷ kinds) (value ∷ values) = value_text kind value ++ BAR ∷ row_text kinds values
row_text kinds values = []

-- the line of an object with these words
abbrev pub object_line : List Column → Option (List ℕ) → List ℕ
object_line columns None = []
object_line columns (Some words) = row_text (value_kinds columns) (row_of columns words) ++ codes "\n"

-- what is printed of an object
abbrev pub get_text : List Column → World → Number → List ℕ
get_text columns world number = if is_present world number then object_line columns (words_in world number 0 (columns_width columns)) else null_line

-- ---- set

-- the write of a value into the column at this place
abbrev pub write_at : List Column → Value → Number → ℕ → Option Event
write_at columns value number at =
    option_map (λ (column : Column). Write number (place_of columns at) (slice_index (value_words column.kind value) 0)) (slice_get columns at)

-- the write of a value into the column of this name, where there is one
abbrev pub write_of : List Column → Word → Value → Number → Option Event
write_of columns name value number = option_and_then (write_at columns value number) (column_at columns name)

-- the world behind an event, where there is one
abbrev pub after : World → Option Event → World
after world None = world
after world (Some event) = world_after world event

-- what is known to be present is written
abbrev pub set_in : List Column → Word → Value → World → Number → World
set_in columns name value world number = if is_present world number then after world (write_of columns name value number) else world

-- the reply
abbrev pub set_text : World → Number → List ℕ
set_text world number = found_line (is_present world number) (codes "set\n")

-- ---- remove

-- what is present is removed
abbrev pub remove_in : World → Number → World
remove_in world number = if is_present world number then world_after world (Remove number true) else world

-- the reply
abbrev pub remove_text : World → Number → List ℕ
remove_text world number = found_line (is_present world number) (codes "removed\n")
