-- Commands over a plain map of objects: what each comes to, on a world and what is known by names and keys.
use Rattle.std.specs.Prelude.{ℕ, ◌+◌, Bool, true, false, Option, None, Some, List, [], ◌∷◌, slice_index, Result, Ok, Err}
use Rattle.smc_words.specs.declared.number.Number.{Number}
use Rattle.smc_model.specs.declared.event.Event.TheVariants.{Add}
use Rattle.smc_model.specs.World.{World, count_of, world_after}
use Rattle.smc_compact.specs.declared.packing.Packed.{Packed}
use Rattle.smc_folds.specs.Kinds.{without_first}
use Rattle.smc_query.specs.Trees.{Word}
use Rattle.smc_types.specs.Tables.{the_tables}
use Rattle.smc_types.specs.declared.schema.Schema.{Schema}
use Rattle.smc_tbl.specs.declared.fault.TblFault.{TblFault}
use Rattle.smc_plan.specs.Edits.{PlannedEdit}
use Rattle.smc_plan.specs.Planned.{Planned}
use Rattle.smc_plan.specs.declared.fault.PlanFault.{PlanFault}
use Rattle.smc_script.specs.Tables.{schema_of}
use Rattle.smc_script.specs.Trees.{CommandTree, load, add, compact, delete, drop_fold, get, query, remove, set, stat, update}
use Rattle.smc_script.specs.declared.script.Place.{Place}
use Rattle.smc_load.specs.Loading.{Entries, record_of}
use Rattle.smc_load.specs.Texts.{text_fault}
use Rattle.smc_load.specs.declared.fault.LoadFault.{LoadFault}
use Rattle.smc_load.specs.declared.fault.LoadFault.TheVariants as fault
use Rattle.smc_replies.specs.Books.{Books, object_of, with_name}
use Rattle.smc_replies.specs.Commands.{objects_line, packed_reply, table_name}
use Rattle.smc_replies.specs.Edits.{delete_plan, deleted_line, update_plan, updated_line}
use Rattle.smc_replies.specs.Folds.{dropped_line}
use Rattle.smc_replies.specs.Loads.{Scene, loaded_line}
use Rattle.smc_replies.specs.Objects.{add_line, null_line, words_of}
use Rattle.smc_replies.specs.Queries.{query_plan}
use Rattle.smc_plain.specs.Given.{Given, behind_packing, behind_row, next_number, next_packing}
use Rattle.smc_plain.specs.Objects.{get_text, remove_in, remove_text, set_in, set_text}
use Rattle.smc_plain.specs.Rows.{count_deleted, count_updated, query_text, world_deleted, world_updated}
use Rattle.smc_plain.specs.Tables.{ReadTable, Reader, read_table, text_of}

-- what stands between two commands: the world, the names, keys and folds that are known, and what is still to be given
pub record Plain : Type 0 where
  pub world : World
  pub books : Books
  pub given : Given

-- what a command comes to: what stands behind it, with its reply; or it is a load of this file that stops at a fault
pub data Turn : Type 0 where
  replies : Plain → (text : List ℕ) → Turn
  stops : (file : Word) → LoadFault → Turn

-- ---- rows

-- the keys with one more object, where the table's objects are found by their keys
abbrev pub with_key : Bool → ℕ → ℕ → Number → Entries → Entries
with_key true table key number keys = ((table, key), number) ∷ keys
with_key false table key number keys = keys

-- the object of a row is added
abbrev pub with_row : Schema → Place → List ℕ → Number → Plain → Plain
with_row schema place words number plain = record {
  world = world_after plain.world (Add number place.coll (record_of schema.columns plain.books.keys words));
  books = record plain.books { keys = with_key schema.keyed place.table (slice_index words 0) number plain.books.keys };
  given = behind_row plain.given;
}

-- there is no room for a row
abbrev pub without_row : Plain → Plain
without_row plain = record plain { given = behind_row plain.given }

-- ---- add

-- an object stands under the name from now on, or none
abbrev pub with_named : Word → Option Number → Plain → Plain
with_named name object plain = record plain { books = record plain.books { names = with_name name object plain.books.names } }

-- the row is added under the name as the object of this number, if there is one
abbrev pub add_as : Schema → Place → Word → List ℕ → Option Number → Plain → Turn
add_as schema place name words (Some number) plain =
    replies (with_named name (Some number) (with_row schema place words number plain)) (add_line (Some number) name)
add_as schema place name words None plain = replies (with_named name None (without_row plain)) (add_line None name)

-- a command by the columns of its table; no command is of a table that is not there
abbrev pub by_schema : Option Schema → (Schema → Turn) → Plain → Turn
by_schema None command plain = replies plain []
by_schema (Some schema) command plain = command schema

-- a command on the object of a name; where there is none the reply is null
abbrev pub on_object : Option Number → (Number → Turn) → Plain → Turn
on_object None command plain = replies plain null_line
on_object (Some number) command plain = command number

-- ---- load

-- the loading ends where the table does, behind so many rows
abbrev pub end_load : Schema → Word → ℕ → Option TblFault → Plain → Turn
end_load schema file count None plain = replies plain (loaded_line schema.name count)
end_load schema file count (Some refused) plain = stops file (text_fault refused (count + 1))

-- the object of the next row is added, and loading goes on; or there is no room for it
abbrev pub load_row : Schema → Place → Word → ℕ → List ℕ → Option Number → Plain → (Plain → Turn) → Turn
load_row schema place file count words None plain later = stops file (fault.Full (count + 1))
load_row schema place file count words (Some number) plain later = later (with_row schema place words number plain)

-- these rows are loaded one after another, behind so many others
abbrev pub load_rows : Schema → Place → Word → Option TblFault → ℕ → List (List ℕ) → Plain → Turn
load_rows schema place file fault count [] plain = end_load schema file count fault plain
load_rows schema place file fault count (words ∷ later) plain =
    load_row schema place file count words (next_number plain.given) plain (λ next. load_rows schema place file fault (count + 1) later next)

-- the rows of a text are loaded, where there is one
abbrev pub load_text : Reader → Schema → Place → Word → Option (List ℕ) → Plain → Turn
load_text reader schema place file None plain = stops file fault.NoFile
load_text reader schema place file (Some text) plain =
    let table : ReadTable = read_table reader schema text in
    load_rows schema place file table.fault 0 table.rows plain

-- ---- the other commands

-- a query is answered over the rows of the world
abbrev pub answer_by : Scene → Place → Result Planned PlanFault → Plain → Turn
answer_by scene place (Ok plan) plain = replies plain (query_text scene.shape plain.world place.coll plan plain.books.folds)
answer_by scene place (Err refused) plain = replies plain []

-- the objects are removed whose rows the plan keeps, by the world at the start
abbrev pub delete_by : Scene → Place → Result Planned PlanFault → Plain → Turn
delete_by scene place (Ok plan) plain = replies (record plain { world = world_deleted scene.shape plain.world place.coll plan })
    (deleted_line (count_deleted scene.shape plain.world place.coll plan))
delete_by scene place (Err refused) plain = replies plain []

-- the objects are written whose rows meet the condition, by the world at the start
abbrev pub update_by : Scene → Place → Result PlannedEdit PlanFault → Plain → Turn
update_by scene place (Ok plan) plain = replies (record plain { world = world_updated scene.shape plain.world place.coll plan })
    (updated_line (count_updated scene.shape plain.world place.coll plan))
update_by scene place (Err refused) plain = replies plain []

-- packing changes nothing, and replies as it ended
abbrev pub pack_text : Place → Option Packed → List ℕ
pack_text place None = []
pack_text place (Some packed) = packed_reply (table_name place.table) packed

-- ---- commands

-- what a command comes to
abbrev pub plain_command : Reader → Scene → CommandTree → Plain → Turn
plain_command reader scene (load place file) plain =
    by_schema (schema_of the_tables place.table) (λ schema. load_text reader schema place file (text_of scene.files file) plain) plain
plain_command reader scene (stat place) plain = replies plain (objects_line (count_of plain.world place.coll))
plain_command reader scene (query place tree) plain = answer_by scene place (query_plan scene.folds tree) plain
plain_command reader scene (compact place) plain = replies (record plain { given = behind_packing plain.given }) (pack_text place (next_packing plain.given))
plain_command reader scene (add place name row) plain =
    by_schema (schema_of the_tables place.table) (λ schema. add_as schema place name (words_of schema row) (next_number plain.given) plain) plain
plain_command reader scene (get place name) plain = on_object (object_of plain.books.names place.coll name)
    (λ number. by_schema (schema_of the_tables place.table) (λ schema. replies plain (get_text schema.columns plain.world number)) plain) plain
plain_command reader scene (set place name column value) plain = on_object (object_of plain.books.names place.coll name)
    (λ number. by_schema (schema_of the_tables place.table)
    (λ schema. replies (record plain { world = set_in schema.columns column value plain.world number }) (set_text plain.world number)) plain) plain
plain_command reader scene (remove place name) plain = on_object (object_of plain.books.names place.coll name)
    (λ number. replies (record plain { world = remove_in plain.world number }) (remove_text plain.world number)) plain
plain_command reader scene (delete place filter) plain = delete_by scene place (delete_plan (table_name place.table) filter) plain
plain_command reader scene (update place column value filter) plain = update_by scene place (update_plan (table_name place.table) column value filter) plain
plain_command reader scene (drop_fold name) plain =
    replies (record plain { books = record plain.books { folds = without_first plain.books.folds name } }) (dropped_line name)
