-- What it is to load the rows of a table: the objects that are added, and the keys that are put.
use Rattle.std.specs.Prelude.{◌≡◌, ◌⊎◌, ℕ, Bool, true, false, List, [], ◌∷◌, ◌++◌, take, slice_index, Option, Some, None, Result, Ok, Err}
use Rattle.std.specs.List.{flat_map}
use Rattle.smc_words.specs.Number.{packed_number}
use Rattle.smc_words.specs.declared.number.Number.{Number}
use Rattle.smc_words.specs.declared.number.TheConstants.Number.{NULL}
use Rattle.smc_types.specs.Columns.{columns_width}
use Rattle.smc_types.specs.Keys.{Puts, number_at}
use Rattle.smc_types.specs.declared.column.Column.{Column}
use Rattle.smc_types.specs.declared.column.FieldType.{FieldType}
use Rattle.smc_types.specs.declared.column.FieldType.TheVariants.{RefTo}
use Rattle.smc_types.specs.declared.schema.Schema.{Schema}
use Rattle.smc_tbl.specs.Words.{AreRowWords}
use Rattle.smc_region.specs.Callers.{Caller}
use Rattle.smc_trace.specs.Trace.{CallEnd}
use Rattle.smc_does.specs.Does.{DoesSome}
use Rattle.smc_objects.specs.Alone.{AddsRow}
use Rattle.smc_objects.specs.declared.adding.Full.{Full}
use Rattle.smc_load.specs.declared.rows.RowFault.{RowFault}
use Rattle.smc_load.specs.declared.rows.RowFault.TheVariants as row

-- keys with the numbers of their objects
abbrev pub Entries : Type 0
Entries = List ((ℕ × ℕ) × Number)

-- the word of a reference: the number of the object, or null where there is none
abbrev pub reference_word : Option Number → ℕ
reference_word None = NULL
reference_word (Some number) = packed_number number

-- where the words of a column of the file begin in a record
abbrev pub place_of : List Column → ℕ → ℕ
place_of columns at = columns_width (take at columns)

-- the key in that column of a row with these words
abbrev pub key_at : List Column → List ℕ → ℕ → ℕ
key_at columns words by = slice_index words (place_of columns by)

-- the word of a reference to that table, whose key stands in this column of a row with these words
abbrev pub resolved : List Column → Entries → List ℕ → ℕ → Option ℕ → ℕ
resolved columns keys words table None = NULL
resolved columns keys words table (Some by) = reference_word (number_at keys table (key_at columns words by))

-- the word of a column, where it is a reference
abbrev pub reference_of : List Column → Entries → List ℕ → FieldType → Option ℕ → List ℕ
reference_of columns keys words (RefTo table) by = resolved columns keys words table by ∷ []
reference_of columns keys words kind by = []

-- the words of those columns of a table that are references, for a row with these words
abbrev pub references_among : List Column → Entries → List ℕ → List Column → List ℕ
references_among columns keys words among = flat_map (λ (column : Column). reference_of columns keys words column.kind column.by) among

-- the words of a row's record: its own, and those of its references behind them, in the order of the columns
abbrev pub record_of : List Column → Entries → List ℕ → List ℕ
record_of columns keys words = words ++ references_among columns keys words columns

-- the keys after an object was added: the number stands under its key, where the table's objects are found by one
abbrev pub PutsKey : Bool → ℕ → ℕ → Number → Entries → Entries → Type 0
PutsKey true table key number old new = Puts old new table key number
PutsKey false table key number old new = new ≡ old

-- the row of these words is added as one object of the collection, its references found by the keys as they stand, and
-- its first word is its key
pub record LoadsRow (schema : Schema) (table coll : ℕ) (old new : Entries) (words : List ℕ) (calls : List CallEnd) : Type 0 where
  pub row : AreRowWords schema words
  pub number : Number
  pub home : number.coll ≡ coll
  pub adds : AddsRow coll (record_of schema.columns old words) (Ok number) calls
  pub puts : PutsKey schema.keyed table (slice_index words 0) number old new

-- the row of these words is added as the object of the collection that has this number, its references found by the keys
-- as they stand; no key is put
pub record AddsAs (schema : Schema) (coll : ℕ) (keys : Entries) (words : List ℕ) (number : Number) (calls : List CallEnd) : Type 0 where
  pub row : AreRowWords schema words
  pub home : number.coll ≡ coll
  pub adds : AddsRow coll (record_of schema.columns keys words) (Ok number) calls

-- both tries to add it are refused
pub record RefusesRow (schema : Schema) (coll : ℕ) (keys : Entries) (words : List ℕ) (calls : List CallEnd) : Type 0 where
  pub row : AreRowWords schema words
  pub cause : Full
  pub adds : AddsRow coll (record_of schema.columns keys words) (Err cause) calls

-- an object of these words may be added to the collection, and nothing else is done
abbrev pub MayAddRow : ℕ → List ℕ → List CallEnd → Type 0
MayAddRow coll words calls = (calls ≡ []) ⊎ ((number : Number) × (number.coll ≡ coll) × AddsRow coll words (Ok number) calls)

-- the row is added as the object of this number
abbrev pub LoadsAs : Schema → ℕ → ℕ → Entries → Entries → List ℕ → Number → List CallEnd → Type 0
LoadsAs schema table coll old new words number calls = (loads : LoadsRow schema table coll old new words calls) × (loads.number ≡ number)

-- how the adding of one row ends, whose key is not put
abbrev pub AddEnds : Result Number RowFault → Schema → ℕ → Entries → List ℕ → Caller → Caller → Type 0
AddEnds (Ok number) schema coll keys words before after = DoesSome before after (AddsAs schema coll keys words number)
AddEnds (Err row.Full) schema coll keys words before after = DoesSome before after (RefusesRow schema coll keys words)
AddEnds (Err row.NoMemory) schema coll keys words before after = after ≡ before

-- how the loading of one row ends
abbrev pub RowEnds : Result Number RowFault → Schema → ℕ → ℕ → Entries → Entries → List ℕ → Caller → Caller → Type 0
RowEnds (Ok number) schema table coll old new words before after = DoesSome before after (LoadsAs schema table coll old new words number)
RowEnds (Err row.Full) schema table coll old new words before after = (new ≡ old) × DoesSome before after (RefusesRow schema coll old words)
RowEnds (Err row.NoMemory) schema table coll old new words before after =
    (new ≡ old) × DoesSome before after (MayAddRow coll (record_of schema.columns old words))
