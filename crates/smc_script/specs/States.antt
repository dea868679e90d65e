-- What stands before a line: what the lines before it have said.
use Rattle.std.specs.Prelude.{ℕ, ◌==◌, Bool, true, false, nat_lt, List, [], ◌∷◌, ◌++◌, map, insert, position, Option, Some, None}
use Rattle.std.specs.List.{prefix_len}
use Rattle.std.specs.Option.{unwrap_or}
use Rattle.smc_query.specs.Trees.{Word, QueryTree}
use Rattle.smc_shape.specs.declared.coll.CollShape.{CollShape}
use Rattle.smc_types.specs.declared.catalog.Catalog.{Catalog}
use Rattle.smc_script.specs.Names.{Naming, table_known, with_name}
use Rattle.smc_script.specs.Says.{SaidTree, room, load, add, get, remove, set, delete, update, query, compact, stat, drop_fold, group, worker, end}
use Rattle.smc_script.specs.Tables.{table_named, table_width}
use Rattle.smc_script.specs.Trees as trees
use Rattle.smc_script.specs.Trees.{CommandTree, NumberedTree, PartTree, ScriptTree, numbered_tree, part_tree, worker_tree}
use Rattle.smc_script.specs.declared.state.Asked.{Asked}
use Rattle.smc_script.specs.declared.state.Reader.{Reader}
use Rattle.smc_script.specs.declared.state.Phase.{Phase}
use Rattle.smc_script.specs.declared.state.Phase.TheVariants.{Asking, Doing}
use Rattle.smc_script.specs.declared.state.Grouping.{Grouping}
use Rattle.smc_script.specs.declared.state.Grouping.TheVariants as of
use Rattle.smc_script.specs.declared.script.Place.{Place}
use Rattle.smc_script.specs.declared.script.Room.{Room}

-- Whether a group is open: none; one without a worker; one with these workers and a last one, with its commands so far.
pub data GroupState : Type 0 where
  outside begun : GroupState
  working : (workers : List (List NumberedTree)) → (commands : List NumberedTree) → GroupState

-- What was read of a script: whether commands have begun, the rooms in the order of their tables, the names that were given,
-- the names of the folds that were dropped, the parts, and the group that is open.
pub record ReadState : Type 0 where
  pub phase : Phase
  pub rooms : List Asked
  pub names : Naming
  pub dropped : List Word
  pub parts : List PartTree
  pub group : GroupState

-- what a reader shows of the open group
abbrev pub group_shown : Grouping → GroupState
group_shown of.Outside = outside
group_shown of.Begun = begun
group_shown (of.Working workers commands) = working (map worker_tree workers.items) (map numbered_tree commands.items)

-- what a reader shows
abbrev pub reading : Reader → ReadState
reading reader = record {
  phase = reader.phase;
  rooms = reader.rooms.items;
  names = reader.names;
  dropped = reader.dropped.items;
  parts = map part_tree reader.parts.items;
  group = group_shown reader.group;
}

-- nothing was read
abbrev pub start : ReadState
start = record {
  phase = Asking;
  rooms = [];
  names = record { given = []; from = 0; before = 0 };
  dropped = [];
  parts = [];
  group = outside;
}

-- the rooms with one more, behind those of tables with a smaller number
abbrev pub with_room : Asked → List Asked → List Asked
with_room asked rooms = insert rooms (prefix_len (λ other. nat_lt other.table asked.table) rooms) asked

-- where the room of a table stands among the rooms
abbrev pub room_at : List Asked → ℕ → Option ℕ
room_at rooms table = position (λ room'. room'.table == table) rooms

-- the place of a table that has a room
abbrev pub place_of : List Asked → ℕ → Place
place_of rooms table = record { table = table; coll = unwrap_or (room_at rooms table) 0 }

-- the collection of a room
abbrev pub coll_asked : Catalog → Asked → CollShape
coll_asked catalog asked = record { width = table_width catalog asked.table; slots = asked.slots }

-- the collections of a region with these rooms
abbrev pub colls_of : Catalog → List Asked → List CollShape
colls_of catalog rooms = map (coll_asked catalog) rooms

-- the table of a query, where there is one
abbrev pub query_table : Catalog → QueryTree → ℕ
query_table catalog tree = unwrap_or (table_named catalog tree.table) 0

-- the place of the object with this name, where the name was given
abbrev pub place_named : ReadState → Word → Place
place_named state name = place_of state.rooms (unwrap_or (table_known state.names name) 0)

-- the command that a line says, where it says one, behind what was read
abbrev pub command_said : Catalog → ReadState → SaidTree → Option CommandTree
command_said catalog state (room table slots) = None
command_said catalog state (load table file) = Some (trees.load (place_of state.rooms table) file)
command_said catalog state (add table name row) = Some (trees.add (place_of state.rooms table) name row)
command_said catalog state (get name) = Some (trees.get (place_named state name) name)
command_said catalog state (set name column (Some value)) = Some (trees.set (place_named state name) name column value)
command_said catalog state (set name column None) = None
command_said catalog state (remove name) = Some (trees.remove (place_named state name) name)
command_said catalog state (delete table cond) = Some (trees.delete (place_of state.rooms table) cond)
command_said catalog state (update table column value filter) = Some (trees.update (place_of state.rooms table) column value filter)
command_said catalog state (query tree) = Some (trees.query (place_of state.rooms (query_table catalog tree)) tree)
command_said catalog state (compact table) = Some (trees.compact (place_of state.rooms table))
command_said catalog state (stat table) = Some (trees.stat (place_of state.rooms table))
command_said catalog state (drop_fold name) = Some (trees.drop_fold name)
command_said catalog state group = None
command_said catalog state worker = None
command_said catalog state end = None

-- Behind a line that says this: the names that were given. A worker doesn't know those that its group gave before it.
abbrev pub names_after : Naming → ℕ → SaidTree → Naming
names_after names line (add table name row) = record names { given = with_name name (record { table = table; line = line }) names.given }
names_after names line group = record names { from = line; before = line }
names_after names line worker = record names { before = line }
names_after names line end = record names { from = line; before = line }
names_after names line said = names

-- the folds that are dropped behind a line that says this
abbrev pub dropped_after : List Word → SaidTree → List Word
dropped_after dropped (drop_fold name) = dropped ++ name ∷ []
dropped_after dropped said = dropped

-- whether a group is open
abbrev pub is_open : GroupState → Bool
is_open outside = false
is_open group' = true

-- the workers of the open group, the last one with its commands so far
abbrev pub workers_of : GroupState → List (List NumberedTree)
workers_of (working workers commands) = workers ++ commands ∷ []
workers_of group' = []

-- what was read, with one more command of the last worker of the open group, or with one more part
abbrev pub with_numbered : ReadState → GroupState → NumberedTree → ReadState
with_numbered state (working workers commands) numbered = record state { phase = Doing; group = working workers (commands ++ numbered ∷ []) }
with_numbered state group' numbered = record state { phase = Doing; parts = state.parts ++ trees.one numbered ∷ [] }

-- what was read, with one more command
abbrev pub with_command : ReadState → ℕ → Option CommandTree → ReadState
with_command state line None = state
with_command state line (Some command) = with_numbered state state.group (record { line = line; command = command })

-- what was read, with the line that begins a group, begins a worker of it, or ends it
abbrev pub with_group : ReadState → ReadState
with_group state = record state { phase = Doing; group = begun }

abbrev pub with_worker : ReadState → ReadState
with_worker state = record state { phase = Doing; group = working (workers_of state.group) [] }

abbrev pub without_group : ReadState → ReadState
without_group state = record state { phase = Doing; group = outside; parts = state.parts ++ trees.group (workers_of state.group) ∷ [] }

-- what was read, with the line that says this
abbrev pub after : Catalog → ReadState → ℕ → SaidTree → ReadState
after catalog state line (room table (Some slots)) = record state { rooms = with_room (record { table = table; slots = slots }) state.rooms }
after catalog state line group = with_group (record state { names = names_after state.names line group })
after catalog state line worker = with_worker (record state { names = names_after state.names line worker })
after catalog state line end = without_group (record state { names = names_after state.names line end })
after catalog state line said =
    with_command (record state { names = names_after state.names line said; dropped = dropped_after state.dropped said }) line (command_said catalog state said)

-- a room with its place
abbrev pub placed : List Asked → Asked → Room
placed rooms asked = record { place = place_of rooms asked.table; slots = asked.slots }

-- the script that was read
abbrev pub script_of : List Word → ReadState → ScriptTree
script_of folds state = record { rooms = map (placed state.rooms) state.rooms; folds = folds; parts = state.parts }
