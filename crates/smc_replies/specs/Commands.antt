-- What each command does, and what it replies.
use Rattle.std.specs.Prelude.{◌≡◌, ⊤, ℕ, ◌<◌, Bool, true, false, is_ok, List, [], ◌++◌, length, codes, Option, Some, None}
use Rattle.std.specs.Fmt.{decimal}
use Rattle.smc_shape.specs.Layout.{Layout, width_of}
use Rattle.smc_trace.specs.Trace.{CallEnd}
use Rattle.smc_objects.specs.Alone.{CountsObjects, InSection}
use Rattle.smc_compact.specs.declared.counting.Census.{Census}
use Rattle.smc_compact.specs.declared.outcome.Outcome.{Outcome}
use Rattle.smc_compact.specs.declared.outcome.Outcome.TheVariants as outcome
use Rattle.smc_compact.specs.declared.packing.Packed.{Packed}
use Rattle.smc_compact.specs.Packs.{Packs}
use Rattle.smc_types.specs.Tables.{the_tables}
use Rattle.smc_types.specs.declared.schema.Schema.{Schema}
use Rattle.smc_query.specs.Trees.{Word}
use Rattle.smc_types.specs.Columns.{columns_width}
use Rattle.smc_script.specs.Sound.{FitsColumn, FitsTable}
use Rattle.smc_script.specs.Tables.{schema_of}
use Rattle.smc_script.specs.Trees.{CommandTree, load, add, compact, delete, drop_fold, get, query, remove, set, stat, update}
use Rattle.smc_script.specs.declared.script.Place.{Place}
use Rattle.smc_load.specs.declared.fault.LoadFault.{LoadFault}
use Rattle.smc_replies.specs.Books.{Books, object_of}
use Rattle.smc_replies.specs.Loads.{Scene, LoadsBy, StopsBy}
use Rattle.smc_replies.specs.Edits.{DeletesWhere, UpdatesWhere, delete_plan, update_plan}
use Rattle.smc_replies.specs.Queries.{AnswersQuery, query_plan}
use Rattle.smc_replies.specs.Folds.{DropsFold}
use Rattle.smc_replies.specs.Objects.{AddsBy, GetsBy, OnObject, RemovesNamed, SetsBy}
use Rattle.smc_replies.specs.declared.limits.TheConstants.{COMPACT_TURNS}

-- ---- counting

-- the line that says how many objects there are
abbrev pub objects_line : ℕ → List ℕ
objects_line count = codes "objects " ++ decimal count ++ codes "\n"

-- one scan of the collection, in a section of its own, counts its objects, and this is said of their number
pub record Counts (said : ℕ → List ℕ) (coll : ℕ) (calls : List CallEnd) (text : List ℕ) : Type 0 where
  pub count : ℕ
  pub counts : InSection (CountsObjects coll count) calls
  pub reply : text ≡ said count

-- ---- packing

-- the name of a table; where there is none, no name
abbrev pub name_by : Option Schema → List ℕ
name_by None = []
name_by (Some schema) = schema.name

-- the name of the table with this number
abbrev pub table_name : ℕ → List ℕ
table_name table = name_by (schema_of the_tables table)

-- the line that says how many objects a table has, and how many blocks hold them
abbrev pub packed_line : List ℕ → Census → List ℕ
packed_line table census = codes "packed " ++ table ++ codes " objects " ++ decimal census.objects ++ codes " blocks " ++ decimal census.blocks ++ codes "\n"

-- the reply to packing, as the drive ended: this one where its objects lie in the fewest blocks
abbrev pub reply_by : Outcome → List ℕ → List ℕ
reply_by (outcome.Done moved abandoned gone) packed = packed
reply_by outcome.Nothing packed = packed
reply_by (outcome.Busy seen) packed = codes "busy\n"
reply_by (outcome.Later pass seen) packed = codes "later\n"
reply_by outcome.Spent packed = codes "spent\n"

-- the reply to packing the table of this name
abbrev pub packed_reply : List ℕ → Packed → List ℕ
packed_reply table packed = reply_by packed.outcome (packed_line table packed.census)

-- the table is packed, and its objects are counted afterwards
pub record PacksTable (place : Place) (calls : List CallEnd) (text : List ℕ) : Type 0 where
  pub packed : Packed
  pub packs : Packs place.coll COMPACT_TURNS packed calls
  pub reply : text ≡ packed_reply (table_name place.table) packed

-- ---- commands

-- whether a command is run, where folds of these names were handed in: queries and edits are where they have a plan
abbrev pub is_known : List Word → CommandTree → Bool
is_known folds (load place file) = true
is_known folds (stat place) = true
is_known folds (query place tree) = is_ok (query_plan folds tree)
is_known folds (compact place) = true
is_known folds (add place name row) = true
is_known folds (get place name) = true
is_known folds (set place name column value) = true
is_known folds (remove place name) = true
is_known folds (delete place filter) = is_ok (delete_plan (table_name place.table) filter)
is_known folds (update place column value filter) = is_ok (update_plan (table_name place.table) column value filter)
is_known folds (drop_fold name) = true

-- ---- what a command needs

-- the collection of the place lies in the region
abbrev pub IsCollOf : Layout → Place → Type 0
IsCollOf shape place = place.coll < length shape.colls

-- and its objects are as wide as the records of its table
pub record IsTableOf (shape : Layout) (place : Place) : Type 0 where
  pub schema : Schema
  pub is : schema_of the_tables place.table ≡ Some schema
  pub coll : IsCollOf shape place
  pub width : columns_width schema.columns ≡ width_of shape place.coll

-- the command may be run on a region of this shape, where the script was read with folds of these names
abbrev pub CanRun : Layout → List Word → CommandTree → Type 0
CanRun shape folds (load place file) = IsTableOf shape place
CanRun shape folds (stat place) = IsCollOf shape place
CanRun shape folds (query place tree) = (is_ok (query_plan folds tree) ≡ true) × IsCollOf shape place
CanRun shape folds (compact place) = IsCollOf shape place
CanRun shape folds (add place name row) = IsTableOf shape place × FitsTable the_tables place.table row
CanRun shape folds (get place name) = IsTableOf shape place
CanRun shape folds (set place name column value) = IsTableOf shape place × FitsColumn the_tables place.table column value
CanRun shape folds (remove place name) = IsCollOf shape place
CanRun shape folds (delete place filter) = (is_ok (delete_plan (table_name place.table) filter) ≡ true) × IsCollOf shape place
CanRun shape folds (update place column value filter) = (is_ok (update_plan (table_name place.table) column value filter) ≡ true) × IsTableOf shape place
CanRun shape folds (drop_fold name) = ⊤

-- ---- what it does

-- whether the command reads a file
abbrev pub is_load : CommandTree → Bool
is_load (load place file) = true
is_load command = false

-- in this scene a command, with what was known before it and what is known after it, makes these calls, and this is its reply
abbrev pub RunsCommand : Scene → CommandTree → Books → Books → List CallEnd → List ℕ → Type 0
RunsCommand scene (load place file) old new calls text = LoadsBy (schema_of the_tables place.table) scene.files place file old new calls text
RunsCommand scene (stat place) old new calls text = (new ≡ old) × Counts objects_line place.coll calls text
RunsCommand scene (query place tree) old new calls text = (new ≡ old) × AnswersQuery scene.shape scene.folds place.coll tree old.folds calls text
RunsCommand scene (compact place) old new calls text = (new ≡ old) × PacksTable place calls text
RunsCommand scene (add place name row) old new calls text = AddsBy (schema_of the_tables place.table) place name row old new calls text
RunsCommand scene (get place name) old new calls text =
    (new ≡ old) × OnObject (object_of old.names place.coll name) (GetsBy (schema_of the_tables place.table)) calls text
RunsCommand scene (set place name column value) old new calls text =
    (new ≡ old) × OnObject (object_of old.names place.coll name) (SetsBy (schema_of the_tables place.table) column value) calls text
RunsCommand scene (remove place name) old new calls text = (new ≡ old) × OnObject (object_of old.names place.coll name) RemovesNamed calls text
RunsCommand scene (delete place filter) old new calls text = (new ≡ old) × DeletesWhere scene.shape (table_name place.table) place.coll filter calls text
RunsCommand scene (update place column value filter) old new calls text =
    (new ≡ old) × UpdatesWhere scene.shape (table_name place.table) place.coll column value filter calls text
RunsCommand scene (drop_fold name) old new calls text = DropsFold name old new calls text

-- the command is a load of this file, which stops at the fault behind these calls
abbrev pub StopsIn : Scene → Word → LoadFault → CommandTree → Books → List CallEnd → Type 0
StopsIn scene named fault (load place file) old calls = (named ≡ file) × StopsBy (schema_of the_tables place.table) scene.files fault place file old calls
StopsIn scene named fault command old calls = ⊥
