-- What the commands on one object do, and what they reply.
use Rattle.std.specs.Prelude.{◌≡◌, ◌⊎◌, ℕ, Bool, true, false, if◌then◌else◌, List, [], ◌∷◌, ◌++◌, codes, length, Option, Some, None, slice_get}
use Rattle.smc_words.specs.declared.number.Number.{Number}
use Rattle.smc_trace.specs.Trace.{CallEnd}
use Rattle.smc_objects.specs.Alone.{InSection, ReadsObject, RemovesObject, SetsField}
use Rattle.smc_query.specs.Trees.{Word}
use Rattle.smc_types.specs.Columns.{columns_width, value_kinds}
use Rattle.smc_types.specs.Records.{row_words, value_words}
use Rattle.smc_types.specs.Rows.{row_of}
use Rattle.smc_types.specs.declared.column.Column.{Column}
use Rattle.smc_types.specs.declared.row.Value.{Value}
use Rattle.smc_types.specs.declared.schema.Schema.{Schema}
use Rattle.smc_tbl.specs.Printed.{PrintsRow}
use Rattle.smc_script.specs.Tables.{column_at}
use Rattle.smc_script.specs.declared.script.Place.{Place}
use Rattle.smc_load.specs.Loading.{LoadsRow, RefusesRow, place_of}
use Rattle.smc_replies.specs.Books.{Books, with_name}

-- the reply where a name has no object, or where its object is not found
abbrev pub null_line : List ℕ
null_line = codes "null\n"

-- the reply where the object was found, or was not
abbrev pub found_line : Bool → List ℕ → List ℕ
found_line found line = if found then line else null_line

-- ---- add

-- the reply to an add: the name, where an object stands under it now, or that there was no room
abbrev pub add_line : Option Number → Word → List ℕ
add_line (Some number) name = codes "added " ++ name ++ codes "\n"
add_line None name = codes "full\n"

-- the words of a row in the columns of its table
abbrev pub words_of : Schema → List Value → List ℕ
words_of schema row = row_words (value_kinds schema.columns) row

-- the row is added as an object of the table, and the object stands under the name
pub record AddsObject (schema : Schema) (place : Place) (name : Word) (row : List Value) (old new : Books) (calls : List CallEnd) (text : List ℕ) : Type 0 where
  pub loads : LoadsRow schema place.table place.coll old.keys new.keys (words_of schema row) calls
  pub names : new.names ≡ with_name name (Some loads.number) old.names
  pub folds : new.folds ≡ old.folds
  pub reply : text ≡ add_line (Some loads.number) name

-- both tries to add it are refused, and none stands under the name
pub record FindsFull (schema : Schema) (place : Place) (name : Word) (row : List Value) (old new : Books) (calls : List CallEnd) (text : List ℕ) : Type 0 where
  pub refuses : RefusesRow schema place.coll old.keys (words_of schema row) calls
  pub keys : new.keys ≡ old.keys
  pub names : new.names ≡ with_name name None old.names
  pub folds : new.folds ≡ old.folds
  pub reply : text ≡ add_line None name

-- a row is added by the columns of its table
abbrev pub AddsBy : Option Schema → Place → Word → List Value → Books → Books → List CallEnd → List ℕ → Type 0
AddsBy None place name row old new calls text = ⊥
AddsBy (Some schema) place name row old new calls text = AddsObject schema place name row old new calls text ⊎ FindsFull schema place name row old new calls text

-- ---- get, set, remove

-- a command on a name that has no object makes no call; else it does this with its object
abbrev pub OnObject : Option Number → (Number → List CallEnd → List ℕ → Type 0) → List CallEnd → List ℕ → Type 0
OnObject None does calls text = (calls ≡ []) × (text ≡ null_line)
OnObject (Some number) does calls text = does number calls text

-- what is printed of the words of an object by its columns, where it was found
abbrev pub PrintsObject : List Column → Bool → List ℕ → List ℕ → Type 0
PrintsObject columns true words text = (line : List ℕ) × PrintsRow (value_kinds columns) (row_of columns words) line × (text ≡ line ++ codes "\n")
PrintsObject columns false words text = text ≡ null_line

-- the object is read whole in a section of its own, and its row is printed
pub record GetsObject (columns : List Column) (number : Number) (calls : List CallEnd) (text : List ℕ) : Type 0 where
  pub found : Bool
  pub words : List ℕ
  pub whole : length words ≡ columns_width columns
  pub reads : InSection (ReadsObject number found words) calls
  pub reply : PrintsObject columns found words text

-- an object is read by the columns of its table
abbrev pub GetsBy : Option Schema → Number → List CallEnd → List ℕ → Type 0
GetsBy None number calls text = ⊥
GetsBy (Some schema) number calls text = GetsObject schema.columns number calls text

-- the value is written into the field of the column of this name, in a section of its own
pub record SetsObject (columns : List Column) (name : Word) (value : Value) (number : Number) (calls : List CallEnd) (text : List ℕ) : Type 0 where
  pub at : ℕ
  pub column : Column
  pub word : ℕ
  pub found : Bool
  pub named : column_at columns name ≡ Some at
  pub there : slice_get columns at ≡ Some column
  pub is : value_words column.kind value ≡ word ∷ []
  pub sets : InSection (SetsField number (place_of columns at) word found) calls
  pub reply : text ≡ found_line found (codes "set\n")

-- a field is written by the columns of its table
abbrev pub SetsBy : Option Schema → Word → Value → Number → List CallEnd → List ℕ → Type 0
SetsBy None name value number calls text = ⊥
SetsBy (Some schema) name value number calls text = SetsObject schema.columns name value number calls text

-- the object is removed, in a section of its own
pub record RemovesNamed (number : Number) (calls : List CallEnd) (text : List ℕ) : Type 0 where
  pub gone : Bool
  pub removes : InSection (RemovesObject number gone) calls
  pub reply : text ≡ found_line gone (codes "removed\n")
