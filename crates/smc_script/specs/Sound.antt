-- What holds of every script that was read.
use Rattle.std.specs.Prelude.{◌≡◌, ◌⊎◌, ⊤, ℕ, ◌≤◌, true, List, [], map, length, slice_get, All, Option, None, Some, IfSome}
use Rattle.std.specs.List.{AllByRecursion}
use Rattle.smc_query.specs.Trees.{Word}
use Rattle.smc_shape.specs.Faults.{fault_of}
use Rattle.smc_shape.specs.declared.coll.CollShape.{CollShape}
use Rattle.smc_shape.specs.declared.shape.TheConstants.{MAX_PASSES}
use Rattle.smc_tbl.specs.TableText.{FitsColumns}
use Rattle.smc_types.specs.Columns.{value_kinds}
use Rattle.smc_types.specs.Faults.{value_fault}
use Rattle.smc_types.specs.Rows.{IsValue}
use Rattle.smc_types.specs.declared.catalog.Catalog.{Catalog}
use Rattle.smc_types.specs.declared.column.FieldType.{FieldType}
use Rattle.smc_types.specs.declared.row.Value.{Value}
use Rattle.smc_types.specs.declared.schema.Schema.{Schema}
use Rattle.smc_script.specs.Faults.{are_plain}
use Rattle.smc_script.specs.Tables.{column_kind, is_editable, schema_of, table_width}
use Rattle.smc_script.specs.Trees.{CommandTree, NumberedTree, PartTree, load, add, get, remove, set, delete, update, query, compact, stat, drop_fold, one, group, part_tree}
use Rattle.smc_script.specs.declared.limits.TheConstants.{MAX_WORKERS}
use Rattle.smc_script.specs.declared.script.Place.{Place}
use Rattle.smc_script.specs.declared.script.Room.{Room}
use Rattle.smc_script.specs.declared.script.Script.{Script}

-- the collection of a room
abbrev pub coll_of_room : Catalog → Room → CollShape
coll_of_room catalog room = record { width = table_width catalog room.place.table; slots = room.slots }

-- no region is asked for, or one with these collections opens, with as many passes as a script can have or fewer
abbrev pub Opens : List CollShape → Type 0
Opens colls = (colls ≡ []) ⊎ ((passes : ℕ) → 1 ≤ passes → passes ≤ MAX_PASSES → fault_of passes colls ≡ None)

-- the place of a command, where it names a table
abbrev pub place_in : CommandTree → Option Place
place_in (load place file) = Some place
place_in (add place name row) = Some place
place_in (get place name) = Some place
place_in (remove place name) = Some place
place_in (set place name column value) = Some place
place_in (delete place filter) = Some place
place_in (update place column value filter) = Some place
place_in (query place tree) = Some place
place_in (compact place) = Some place
place_in (stat place) = Some place
place_in (drop_fold name) = None

-- the place is that of the room which stands there among the rooms
pub record IsRoomPlace (rooms : List Room) (place : Place) : Type 0 where
  pub room : Room
  pub there : slice_get rooms place.coll ≡ Some room
  pub same : room.place ≡ place

-- the place of the command is that of a room
abbrev pub IsPlacedAmong : List Room → CommandTree → Type 0
IsPlacedAmong rooms command = IfSome (place_in command) (IsRoomPlace rooms)

-- this holds of each command of the part
abbrev pub EachCommand : (CommandTree → Type 0) → PartTree → Type 0
EachCommand holds (one numbered) = holds numbered.command
EachCommand holds (group workers) = AllByRecursion (AllByRecursion (λ numbered. holds numbered.command)) workers

-- the place of each command of the part is that of a room
abbrev pub IsPlaced : List Room → PartTree → Type 0
IsPlaced rooms part = EachCommand (IsPlacedAmong rooms) part

-- a worker of a group may do this
abbrev pub MayWork : CommandTree → Type 0
MayWork (load place file) = ⊥
MayWork (drop_fold name) = ⊥
MayWork (query place tree) = are_plain tree.items ≡ true
MayWork command = ⊤

-- the worker has a command
abbrev pub HasCommand : List NumberedTree → Type 0
HasCommand commands = 1 ≤ length commands

-- there are one to so many workers, each of them has a command, and may do all of its commands
pub record IsGroup (workers : List (List NumberedTree)) : Type 0 where
  pub some : 1 ≤ length workers
  pub few : length workers ≤ MAX_WORKERS
  pub busy : AllByRecursion HasCommand workers
  pub may : AllByRecursion (AllByRecursion (λ numbered. MayWork numbered.command)) workers

-- the part is a command, or such a group
abbrev pub IsWhole : PartTree → Type 0
IsWhole (one numbered) = ⊤
IsWhole (group workers) = IsGroup workers

-- the row is one of the table with this number: a value for each column of its file, within its range or width
pub record FitsTable (catalog : Catalog) (table : ℕ) (row : List Value) : Type 0 where
  pub schema : Schema
  pub is : schema_of catalog table ≡ Some schema
  pub fits : FitsColumns (value_kinds schema.columns) row
  pub texts : All IsValue row

-- the value is one of the column of this name, which may be written
pub record FitsColumn (catalog : Catalog) (table : ℕ) (column : Word) (value : Value) : Type 0 where
  pub kind : FieldType
  pub is : column_kind catalog table column ≡ Some kind
  pub writes : is_editable kind ≡ true
  pub fits : value_fault kind value ≡ None

-- what the command adds or sets fits its table
abbrev pub IsFit : Catalog → CommandTree → Type 0
IsFit catalog (add place name row) = FitsTable catalog place.table row
IsFit catalog (set place name column value) = FitsColumn catalog place.table column value
IsFit catalog command = ⊤

-- the region of a script's rooms opens, where the script has rooms; the place of each command is that of a room, and what
-- it adds or sets fits its table; each group has workers that may do their commands
pub record IsSound (catalog : Catalog) (script : Script) : Type 0 where
  pub opens : Opens (map (coll_of_room catalog) script.rooms)
  pub fits : AllByRecursion (IsPlaced script.rooms) (map part_tree script.parts)
  pub values : AllByRecursion (EachCommand (IsFit catalog)) (map part_tree script.parts)
  pub groups : AllByRecursion IsWhole (map part_tree script.parts)
