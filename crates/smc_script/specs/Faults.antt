-- The kind of refusal of a line, by what stands before it.
use Rattle.std.specs.Prelude.{◌≡◌, ℕ, Bool, true, false, not, is_some, ◌&&◌, ◌||◌, nat_lt, nat_le, if◌then◌else◌, length, List, Option, Some, None, Result, Ok, Err}
use Rattle.std.specs.List.{list_all, list_any}
use Rattle.std.specs.Option.{option_or}
use Rattle.std.specs.Str.{bytes_eq}
use Rattle.smc_lines.specs.Ahead.{Counts, IsPassedOver, IsText}
use Rattle.smc_query.specs.Trees.{Word, ItemTree, CallTree, count, aggregate, fold}
use Rattle.smc_shape.specs.Faults.{fault_of}
use Rattle.smc_shape.specs.declared.shape.TheConstants.{MAX_PASSES}
use Rattle.smc_types.specs.declared.catalog.Catalog.{Catalog}
use Rattle.smc_script.specs.Names.{is_taken, table_known}
use Rattle.smc_script.specs.Says.{SaidTree, LineSays, room, load, add, get, remove, set, delete, update, query, compact, stat, drop_fold, group, worker, end, kind_named}
use Rattle.smc_script.specs.States.{ReadState, GroupState, outside, begun, working, after, colls_of, room_at, with_room, workers_of}
use Rattle.smc_script.specs.Tables.{column_kind, may_write, table_named}
use Rattle.smc_script.specs.Trees.{NumberedTree}
use Rattle.smc_script.specs.declared.fault.ScriptKind.{ScriptKind}
use Rattle.smc_script.specs.declared.fault.ScriptKind.TheVariants.{TooMany, Grammar, Group, Room, Name}
use Rattle.smc_script.specs.declared.limits.TheConstants.{MAX_WORKERS}
use Rattle.smc_script.specs.declared.state.Asked.{Asked}
use Rattle.smc_script.specs.declared.state.Phase.{Phase}
use Rattle.smc_script.specs.declared.state.Phase.TheVariants.{Asking, Doing}

-- this kind where the test holds
abbrev pub fault_where : Bool → ScriptKind → Option ScriptKind
fault_where test kind = if test then Some kind else None

-- a worker is begun behind the last that a group may have
abbrev pub many_fault : GroupState → SaidTree → Option ScriptKind
many_fault group' worker = fault_where (nat_le MAX_WORKERS (length (workers_of group'))) TooMany
many_fault group' said = None

-- whether a call is no fold
abbrev pub is_plain : CallTree → Bool
is_plain (fold name of) = false
is_plain call = true

-- whether no item of a query is a fold
abbrev pub are_plain : List ItemTree → Bool
are_plain items = list_all (λ item. is_plain item.call) items

-- whether a worker of a group may do this, or end with it
abbrev pub is_of_worker : (commands : List NumberedTree) → SaidTree → Bool
is_of_worker commands (room table slots) = false
is_of_worker commands (load table file) = false
is_of_worker commands (drop_fold name) = false
is_of_worker commands (query tree) = are_plain tree.items
is_of_worker commands group = false
is_of_worker commands worker = nat_lt 0 (length commands)
is_of_worker commands end = nat_lt 0 (length commands)
is_of_worker commands said = true

-- whether a line that says this may stand where this group is open
abbrev pub may_stand : GroupState → SaidTree → Bool
may_stand outside worker = false
may_stand outside end = false
may_stand outside said = true
may_stand begun worker = true
may_stand begun said = false
may_stand (working workers commands) said = is_of_worker commands said

-- the kind of a line that may not stand there
abbrev pub group_fault : GroupState → SaidTree → Option ScriptKind
group_fault group' said = fault_where (not (may_stand group' said)) Group

-- whether commands have begun
abbrev pub is_doing : Phase → Bool
is_doing Asking = false
is_doing Doing = true

-- whether the table has a room
abbrev pub has_room : List Asked → ℕ → Bool
has_room rooms table = is_some (room_at rooms table)

-- whether no region has these collections, also with as many passes as a script can have
abbrev pub is_too_large : Catalog → List Asked → Bool
is_too_large catalog rooms = is_some (fault_of MAX_PASSES (colls_of catalog rooms))

-- whether there can't be such a room beside the others
abbrev pub is_no_room : Catalog → List Asked → ℕ → Option ℕ → Bool
is_no_room catalog rooms table None = true
is_no_room catalog rooms table (Some slots) = is_too_large catalog (with_room (record { table = table; slots = slots }) rooms)

-- rooms are asked for before all commands, each once, with a number in its range, and together they fit a region
abbrev pub room_fault : Catalog → ReadState → SaidTree → Option ScriptKind
room_fault catalog state (room table slots) = fault_where (is_doing state.phase || has_room state.rooms table || is_no_room catalog state.rooms table slots) Room
room_fault catalog state said = None

-- whether a fold of this name was handed in, and none of this name dropped
abbrev pub is_left : (folds dropped : List Word) → Word → Bool
is_left folds dropped name = list_any (λ known. bytes_eq known name) folds && not (list_any (λ gone. bytes_eq gone name) dropped)

-- whether a call is no fold, or one that is left
abbrev pub knows_call : (folds dropped : List Word) → CallTree → Bool
knows_call folds dropped count = true
knows_call folds dropped (aggregate kind of) = true
knows_call folds dropped (fold name of) = is_left folds dropped name

-- whether each fold of the query is left
abbrev pub knows_folds : (folds dropped : List Word) → List ItemTree → Bool
knows_folds folds dropped items = list_all (λ item. knows_call folds dropped item.call) items

-- whether there is such a table, and it has a room
abbrev pub is_placed : List Asked → Option ℕ → Bool
is_placed rooms None = false
is_placed rooms (Some table) = has_room rooms table

-- whether the name is known here, as that of an object of a table with a room
abbrev pub is_given : ReadState → Word → Bool
is_given state name = is_placed state.rooms (table_known state.names name)

-- a command names tables with a room, a name that is new or one that was given, a column that it may write, and folds
-- that are left
abbrev pub knows : Catalog → List Word → ReadState → SaidTree → Bool
knows catalog folds state (room table slots) = true
knows catalog folds state (load table file) = has_room state.rooms table
knows catalog folds state (add table name row) = has_room state.rooms table && not (is_taken state.names name)
knows catalog folds state (get name) = is_given state name
knows catalog folds state (set name column value) = is_given state name && may_write (kind_named catalog state.names name column)
knows catalog folds state (remove name) = is_given state name
knows catalog folds state (delete table cond) = has_room state.rooms table
knows catalog folds state (update table column value filter) = has_room state.rooms table && may_write (column_kind catalog table column)
knows catalog folds state (query tree) = is_placed state.rooms (table_named catalog tree.table) && knows_folds folds state.dropped tree.items
knows catalog folds state (compact table) = has_room state.rooms table
knows catalog folds state (stat table) = has_room state.rooms table
knows catalog folds state (drop_fold name) = is_left folds state.dropped name
knows catalog folds state group = true
knows catalog folds state worker = true
knows catalog folds state end = true

-- the kind of a line that names what is not known
abbrev pub name_fault : Catalog → List Word → ReadState → SaidTree → Option ScriptKind
name_fault catalog folds state said = fault_where (not (knows catalog folds state said)) Name

-- the kind of a line by the rooms, names and folds before it
abbrev pub known_fault : Catalog → List Word → ReadState → SaidTree → Option ScriptKind
known_fault catalog folds state said = option_or (room_fault catalog state said) (name_fault catalog folds state said)

-- the kind of a line that says this, in the order in which the kinds are tested
abbrev pub said_fault : Catalog → List Word → ReadState → SaidTree → Option ScriptKind
said_fault catalog folds state said =
    option_or (many_fault state.group said) (option_or (group_fault state.group said) (known_fault catalog folds state said))

-- what a line that says this gives: its kind, or what was read with it
abbrev pub taken : Catalog → ReadState → ℕ → SaidTree → Option ScriptKind → Result ReadState ScriptKind
taken catalog state line said None = Ok (after catalog state line said)
taken catalog state line said (Some kind) = Err kind

-- What a line gives: the state behind it, or the first kind of refusal that applies to it.
pub data LineGives : Catalog → List Word → ReadState → ℕ → List ℕ → Result ReadState ScriptKind → Type 0 where
  passed_over : {catalog : Catalog} {folds : List Word} {state : ReadState} {number : ℕ} {line : List ℕ} {given : Result ReadState ScriptKind}
      → IsPassedOver line → given ≡ Ok state → LineGives catalog folds state number line given
  no_text : {catalog : Catalog} {folds : List Word} {state : ReadState} {number : ℕ} {line : List ℕ} {given : Result ReadState ScriptKind}
      → ¬ IsText line → given ≡ Err Grammar → LineGives catalog folds state number line given
  no_command : {catalog : Catalog} {folds : List Word} {state : ReadState} {number : ℕ} {line : List ℕ} {given : Result ReadState ScriptKind}
      → Counts line → ((said : SaidTree) → ¬ LineSays catalog state.names line said) → given ≡ Err Grammar → LineGives catalog folds state number line given
  command : {catalog : Catalog} {folds : List Word} {state : ReadState} {number : ℕ} {line : List ℕ} {given : Result ReadState ScriptKind} (said : SaidTree)
      → Counts line → LineSays catalog state.names line said → given ≡ taken catalog state number said (said_fault catalog folds state said)
      → LineGives catalog folds state number line given

-- what the answer to a line says that it gives: the state behind it, or its kind
abbrev pub line_answer : Option ScriptKind → ReadState → Result ReadState ScriptKind
line_answer None next = Ok next
line_answer (Some kind) next = Err kind
