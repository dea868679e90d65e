-- What was read is sound: its commands are placed at rooms, and what they add or set fits their tables.
use Rattle.std.proofs.Common.{◌≡◌, ℕ, List, [], ◌∷◌, ◌++◌, inl, inr, map, get_or, slice_get, Bool, true, false, Option, None, Some, codes, bytes_eq, refl, sym, ap, ◌∙◌, subst}
use Rattle.std.proofs.lemmas.Bool.{eqb-true}
use Rattle.std.proofs.lemmas.List.Quantifiers.{position-Some}
use Rattle.std.proofs.lemmas.Option.{slice_get-get_or, slice_get-map}
use Rattle.std.specs.List.{All, AllByRecursion}
use Rattle.std.specs.Option.{option_map, unwrap_or}
use Rattle.std.specs.Prelude.{⊤, is_some, not, ◌==◌, ◌&&◌, ◌||◌, if◌then◌else◌}
use Rattle.smc_lines.specs.Numbers.{is_number}
use Rattle.smc_lines.specs.Words.{words}
use Rattle.smc_query.specs.Trees.{Word}
use Rattle.smc_tbl.specs.Alone.{SpellsAlone}
use Rattle.smc_tbl.specs.TableText.{FitsColumns, SpellsRow}
use Rattle.smc_types.specs.Columns.{value_kinds}
use Rattle.smc_types.specs.Faults.{value_fault}
use Rattle.smc_types.specs.Rows.{IsValue}
use Rattle.smc_types.specs.declared.catalog.Catalog.{Catalog}
use Rattle.smc_types.specs.declared.column.FieldType.{FieldType}
use Rattle.smc_types.specs.declared.row.Value.{Value}
use Rattle.smc_types.specs.declared.schema.Schema.{Schema}
use Rattle.smc_script.specs.Faults.{fault_where, has_room, is_doing, is_given, is_no_room, is_placed, knows, knows_folds, room_fault}
use Rattle.smc_script.specs.Names.{Naming, is_script_name, is_taken, table_known}
use Rattle.smc_script.specs.Says.{LineSays, VerbSays, SaidTree, ColumnSays, CondSays, EditSays, RowSays, SaysSet, SaysValue, TwoThen, room, load, add, get, set, remove, delete, update, query, compact, stat, column_before, drop_fold, group, worker, end, mark_of, drop_said, is_file_name, kind_named, load_said, name_said, room_said, slots_asked, table_added, table_before, table_said}
use Rattle.smc_script.specs.Sound.{EachCommand, FitsColumn, FitsTable, IsFit, IsPlaced, IsPlacedAmong, IsRoomPlace}
use Rattle.smc_script.specs.States.{ReadState, GroupState, outside, begun, working, after, dropped_after, names_after, place_of, placed, room_at, with_command, with_group, with_numbered, with_room, with_worker, without_group, workers_of}
use Rattle.smc_script.specs.Tables.{column_kind, kind_of, may_write, table_named}
use Rattle.smc_script.specs.Trees.{CommandTree, NumberedTree, PartTree, one}
use Rattle.smc_script.specs.Trees as trees
use Rattle.smc_script.specs.declared.fault.ScriptKind.{ScriptKind}
use Rattle.smc_script.specs.declared.fault.ScriptKind.TheVariants.{Room}
use Rattle.smc_script.specs.declared.script.Room.{Room as RoomOf}
use Rattle.smc_script.specs.declared.state.Asked.{Asked}
use Rattle.smc_script.specs.declared.state.Phase.{Phase}
use Rattle.smc_script.specs.declared.state.Phase.TheVariants.{Asking, Doing}
use Rattle.smc_script.specs.declared.verb.Verb.TheVariants as verb
use Rattle.smc_script.proofs.SaysLaws.{some-one}
use Rattle.smc_script.proofs.StateLaws.{fault-none}

-- ---- tests

-- what is not refused holds
not-false : (test : Bool) → not test ≡ false → test ≡ true
not-false true is = refl
not-false false is = absurd cc

-- the first of two that hold, and the second
first-true : (a b : Bool) → (a && b) ≡ true → a ≡ true
first-true true b is = refl
first-true false b is = absurd cc

second-true : (a b : Bool) → (a && b) ≡ true → b ≡ true
second-true true b is = is
second-true false b is = absurd cc

-- where none of three holds the first doesn't
none-first : (a b c : Bool) → (a || b || c) ≡ false → a ≡ false
none-first true b c is = absurd cc
none-first false b c is = refl

-- where a test gives no kind, what it denies holds
pub denied-none : (test : Bool) (kind : ScriptKind) → fault_where (not test) kind ≡ None → test ≡ true
denied-none test kind is = not-false test (fault-none (not test) kind is)

-- ---- the rooms that were found

-- the rooms of what was read, with their places
abbrev pub rooms_of : List Asked → List RoomOf
rooms_of rooms = map (placed rooms) rooms

-- a table whose room was found has the place of that room
found-place : (rooms : List Asked) (table : ℕ) (found : Option ℕ) → room_at rooms table ≡ found → is_some found ≡ true → IsRoomPlace (rooms_of rooms) (place_of rooms table)
found-place rooms table None at some = absurd cc
found-place rooms table (Some n) at some =
    let nobody : Asked = record { table = 0; slots = 0 } in
    let found = position-Some (λ room'. room'.table == table) rooms n nobody at in
    let asked : Asked = get_or rooms n nobody in
    let same : asked.table ≡ table = eqb-true asked.table table found.1 in
    let there : slice_get (rooms_of rooms) n ≡ Some (placed rooms asked) =
    slice_get-map (placed rooms) rooms n ∙ ap (option_map (placed rooms)) (slice_get-get_or rooms n nobody found.0) in
    let coll : unwrap_or (room_at rooms table) 0 ≡ n = ap (λ (o : Option ℕ). unwrap_or o 0) at in record {
      room = placed rooms asked;
      there = subst (λ (c : ℕ). slice_get (rooms_of rooms) c ≡ Some (placed rooms asked)) (sym coll) there;
      same = ap (place_of rooms) same;
    }

-- a table with a room has the place of a room
has-place : (rooms : List Asked) (table : ℕ) → has_room rooms table ≡ true → IsRoomPlace (rooms_of rooms) (place_of rooms table)
has-place rooms table some = found-place rooms table (room_at rooms table) refl some

-- the same of a table that there may be
named-place : (rooms : List Asked) (table : Option ℕ) → is_placed rooms table ≡ true → IsRoomPlace (rooms_of rooms) (place_of rooms (unwrap_or table 0))
named-place rooms None is = absurd cc
named-place rooms (Some table) is = has-place rooms table is

-- ---- what a line says fits

-- what is added or set fits its table
abbrev pub SaidFits : Catalog → Naming → SaidTree → Type 0
SaidFits catalog names (add table name row) = FitsTable catalog table row
SaidFits catalog names (set name column (Some value)) =
    (kind : FieldType) × (kind_named catalog names name column ≡ Some kind) × (value_fault kind value ≡ None)
SaidFits catalog names said = ⊤

-- the laws of what is spelled
pub record Fits : Type 0 where
  pub row : (schema : Schema) (line : List ℕ) (row : List Value) → SpellsRow schema line row → FitsColumns (value_kinds schema.columns) row
  pub texts : (schema : Schema) (line : List ℕ) (row : List Value) → SpellsRow schema line row → All IsValue row
  pub value : (kind : FieldType) (text : List ℕ) (value : Value) → SpellsAlone kind text value → value_fault kind value ≡ None

-- what holds of each thing that is made of a number or a word holds of what was made
of-mapped : {A : Type 0} (holds : SaidTree → Type 0) (make : A → SaidTree) → ((a : A) → holds (make a)) → (found : Option A) (said : SaidTree) → option_map make found ≡ Some said → holds said
of-mapped holds make each (Some a) said is = subst holds (some-one (make a) said is) (each a)
of-mapped holds make each None said is = absurd cc

-- where a test lets something through, it is that
of-test : (holds : SaidTree → Type 0) (test : Bool) (found : Option SaidTree) (said : SaidTree) → (found ≡ Some said → holds said)
    → (if test then found else None) ≡ Some said → holds said
of-test holds true found said goes is = goes is
of-test holds false found said goes is = absurd cc

-- the same of a test that lets one of two through
of-either : (holds : SaidTree → Type 0) (test : Bool) (this other : Option SaidTree) (said : SaidTree) → (this ≡ Some said → holds said) → (other ≡ Some said → holds said)
    → (if test then this else other) ≡ Some said → holds said
of-either holds true this other said goes rest is = goes is
of-either holds false this other said goes rest is = rest is

-- what a word of groups says fits
mark-fits : (catalog : Catalog) (names : Naming) (word : Word) (said : SaidTree) → mark_of word ≡ Some said → SaidFits catalog names said
mark-fits catalog names word said is =
    of-either (SaidFits catalog names) (bytes_eq word (codes "group")) (Some group)
    (if bytes_eq word (codes "worker") then Some worker else if bytes_eq word (codes "end") then Some end else None) said
    (λ same. subst (SaidFits catalog names) (some-one group said same) tt)
    (of-either (SaidFits catalog names) (bytes_eq word (codes "worker")) (Some worker) (if bytes_eq word (codes "end") then Some end else None) said
    (λ same. subst (SaidFits catalog names) (some-one worker said same) tt)
    (of-test (SaidFits catalog names) (bytes_eq word (codes "end")) (Some end) said (λ same. subst (SaidFits catalog names) (some-one end said same) tt))) is

room-fits : (catalog : Catalog) (names : Naming) (list : List Word) (said : SaidTree) → room_said catalog list ≡ Some said → SaidFits catalog names said
room-fits catalog names (table ∷ digits ∷ []) said is =
    of-test (SaidFits catalog names) (is_number digits) (option_map (λ t. room t (slots_asked digits)) (table_named catalog table)) said
    (of-mapped (SaidFits catalog names) (λ t. room t (slots_asked digits)) (λ t. tt) (table_named catalog table) said) is
room-fits catalog names [] said is = absurd cc
room-fits catalog names (x ∷ []) said is = absurd cc
room-fits catalog names (x ∷ y ∷ z ∷ more) said is = absurd cc

load-fits : (catalog : Catalog) (names : Naming) (list : List Word) (said : SaidTree) → load_said catalog list ≡ Some said → SaidFits catalog names said
load-fits catalog names (table ∷ file ∷ []) said is =
    of-test (SaidFits catalog names) (is_file_name file) (option_map (λ t. load t file) (table_named catalog table)) said
    (of-mapped (SaidFits catalog names) (λ t. load t file) (λ t. tt) (table_named catalog table) said) is
load-fits catalog names [] said is = absurd cc
load-fits catalog names (x ∷ []) said is = absurd cc
load-fits catalog names (x ∷ y ∷ z ∷ more) said is = absurd cc

table-fits : (say : ℕ → SaidTree) (catalog : Catalog) (names : Naming) (list : List Word) (said : SaidTree) → ((table : ℕ) → SaidFits catalog names (say table))
    → table_said say catalog list ≡ Some said → SaidFits catalog names said
table-fits say catalog names (table ∷ []) said each is = of-mapped (SaidFits catalog names) say each (table_named catalog table) said is
table-fits say catalog names [] said each is = absurd cc
table-fits say catalog names (x ∷ y ∷ more) said each is = absurd cc

name-fits : (say : Word → SaidTree) (catalog : Catalog) (names : Naming) (list : List Word) (said : SaidTree) → ((name : Word) → SaidFits catalog names (say name))
    → name_said say list ≡ Some said → SaidFits catalog names said
name-fits say catalog names (name ∷ []) said each is =
    of-test (SaidFits catalog names) (is_script_name name) (Some (say name)) said
    (λ same. subst (SaidFits catalog names) (some-one (say name) said same) (each name)) is
name-fits say catalog names [] said each is = absurd cc
name-fits say catalog names (x ∷ y ∷ more) said each is = absurd cc

drop-fits : (catalog : Catalog) (names : Naming) (list : List Word) (said : SaidTree) → drop_said list ≡ Some said → SaidFits catalog names said
drop-fits catalog names (word ∷ name ∷ []) said is =
    of-test (SaidFits catalog names) (bytes_eq word (codes "fold") && is_script_name name) (Some (drop_fold name)) said
    (λ same. subst (SaidFits catalog names) (some-one (drop_fold name) said same) tt) is
drop-fits catalog names [] said is = absurd cc
drop-fits catalog names (x ∷ []) said is = absurd cc
drop-fits catalog names (x ∷ y ∷ z ∷ more) said is = absurd cc

-- what holds of all that stands behind two words holds of what they say
two-fits : (holds : SaidTree → Type 0) (head : Word → Word → Option ℕ) (reads : ℕ → Word → Word → List ℕ → SaidTree → Type 0) (text : List ℕ) (said : SaidTree)
    → ((table : ℕ) (first second : Word) (behind : List ℕ) → reads table first second behind said → holds said) → TwoThen head reads text said → holds said
two-fits holds head reads text said each two = each two.table two.first two.second two.behind two.says

-- what is added fits its table
row-fits : Fits → (catalog : Catalog) (names : Naming) (table : ℕ) (name : Word) (text : List ℕ) (said : SaidTree) → RowSays catalog table name text said → SaidFits catalog names said
row-fits laws catalog names table name text said (row, is, (schema, same, spells)) =
    subst (SaidFits catalog names) (sym is)
    (record { schema = schema; is = same; fits = laws.row schema text row spells; texts = laws.texts schema text row spells })

-- what is set fits its column
value-fits : Fits → (catalog : Catalog) (names : Naming) (name column text : Word) (value : Option Value) (kind : Option FieldType) → kind_named catalog names name column ≡ kind
    → SaysValue kind text value → SaidFits catalog names (set name column value)
value-fits laws catalog names name column text None kind is says = tt
value-fits laws catalog names name column text (Some value) (Some kind) is says = (kind, is, laws.value kind text value says)
value-fits laws catalog names name column text (Some value) None is says = absurd cc

set-fits : Fits → (catalog : Catalog) (names : Naming) (text : List ℕ) (said : SaidTree) → SaysSet catalog names text said → SaidFits catalog names said
set-fits laws catalog names text said s =
    subst (SaidFits catalog names) (sym s.says)
    (value-fits laws catalog names s.name s.column s.value_text s.value (kind_named catalog names s.name s.column) refl s.spells)

-- what a line says fits
pub line-fits : Fits → (catalog : Catalog) (names : Naming) (line : List ℕ) (said : SaidTree) → LineSays catalog names line said → SaidFits catalog names said
line-fits laws catalog names line said (inl mark) = mark-fits catalog names mark.word said mark.is
line-fits laws catalog names line said (inr says) = go says.command says.says
  where
    go : (command : _) → VerbSays catalog names command says.text said → SaidFits catalog names said
    go verb.Room is = room-fits catalog names (words says.text) said is
    go verb.Load is = load-fits catalog names (words says.text) said is
    go verb.Add is =
        two-fits (SaidFits catalog names) (table_added catalog) (λ table _ name. RowSays catalog table name) says.text said
        (λ table word name behind. row-fits laws catalog names table name behind said) is
    go verb.Get is = name-fits get catalog names (words says.text) said (λ name. tt) is
    go verb.Set is = set-fits laws catalog names says.text said is
    go verb.Remove is = name-fits remove catalog names (words says.text) said (λ name. tt) is
    go verb.Delete is =
        two-fits (SaidFits catalog names) (table_before catalog (codes "where")) (λ table _ _. CondSays table) says.text said
        (λ table word other behind cond. subst (SaidFits catalog names) (sym cond.1) tt) is
    go verb.Update is =
        two-fits (SaidFits catalog names) (table_before catalog (codes "set")) (λ table _ _. ColumnSays table) says.text said
        (λ table word other behind column. two-fits (SaidFits catalog names) (column_before table) (λ same name _. EditSays same name) behind said
        (λ same name sign rest edit. subst (SaidFits catalog names) (sym edit.2) tt) column) is
    go verb.Query (tree, is, query') = subst (SaidFits catalog names) (sym is) tt
    go verb.Compact is = table-fits compact catalog names (words says.text) said (λ table. tt) is
    go verb.Stat is = table-fits stat catalog names (words says.text) said (λ table. tt) is
    go verb.Drop is = drop-fits catalog names (words says.text) said is

-- a value of a column that may be written fits the column of the named object
column-fits : (catalog : Catalog) (table : Option ℕ) (column : Word) (value : Value) (kind : FieldType) → kind_of catalog table column ≡ Some kind → value_fault kind value ≡ None
    → may_write (kind_of catalog table column) ≡ true → FitsColumn catalog (unwrap_or table 0) column value
column-fits catalog None column value kind is good may = absurd cc
column-fits catalog (Some table) column value kind is good may = record {
  kind = kind;
  is = is;
  writes = subst (λ (o : Option FieldType). may_write o ≡ true) is may;
  fits = good;
}

-- ---- more commands, and more rooms

-- what holds of each of a list holds of each of a list with one more
pub all-more : {A : Type 0} (P : A → Type 0) (list : List A) (last : A) → AllByRecursion P list → P last → AllByRecursion P (list ++ last ∷ [])
all-more P [] last all holds = (holds, tt)
all-more P (a ∷ list) last (first, all) holds = (first, all-more P list last all holds)

-- the same of each of a list of lists with one more in the last
pub work-more : {A : Type 0} (P : A → Type 0) (workers : List (List A)) (commands : List A) (last : A) → AllByRecursion (AllByRecursion P) (workers ++ commands ∷ []) → P last
    → AllByRecursion (AllByRecursion P) (workers ++ (commands ++ last ∷ []) ∷ [])
work-more P [] commands last (all, rest) holds = (all-more P commands last all holds, tt)
work-more P (worker' ∷ workers) commands last (first, all) holds = (first, work-more P workers commands last all holds)

-- the open group as a part, the last worker with its commands so far
abbrev pub group_part : GroupState → PartTree
group_part state = trees.group (workers_of state)

-- before the first command nothing was done; each part of what was read, and the open group, is placed among its rooms, and
-- fits its tables
pub record IsGood (catalog : Catalog) (state : ReadState) : Type 0 where
  pub before : state.phase ≡ Asking → (state.parts ≡ []) × (state.group ≡ outside)
  pub placed : AllByRecursion (IsPlaced (rooms_of state.rooms)) state.parts
  pub fits : AllByRecursion (EachCommand (IsFit catalog)) state.parts
  pub work_placed : IsPlaced (rooms_of state.rooms) (group_part state.group)
  pub work_fits : EachCommand (IsFit catalog) (group_part state.group)

-- rooms are asked for before the first command
asking-by : (phase : Phase) → is_doing phase ≡ false → phase ≡ Asking
asking-by Asking is = refl
asking-by Doing is = absurd cc

-- one more room leaves what was read good
room-good : (catalog : Catalog) (state : ReadState) (table slots : ℕ) → IsGood catalog state → room_fault catalog state (room table (Some slots)) ≡ None
    → IsGood catalog (record state { rooms = with_room (record { table = table; slots = slots }) state.rooms })
room-good catalog state table slots good is =
    let rooms : List Asked = with_room (record { table = table; slots = slots }) state.rooms in
    let asking = asking-by state.phase (none-first (is_doing state.phase) (has_room state.rooms table) (is_no_room catalog state.rooms table (Some slots))
    (fault-none (is_doing state.phase || has_room state.rooms table || is_no_room catalog state.rooms table (Some slots)) Room is)) in
    let none = good.before asking in record {
      before = good.before;
      placed = subst (λ (parts : List PartTree). AllByRecursion (IsPlaced (rooms_of rooms)) parts) (sym none.0) tt;
      fits = good.fits;
      work_placed = subst (λ (g : GroupState). IsPlaced (rooms_of rooms) (group_part g)) (sym none.1) tt;
      work_fits = good.work_fits;
    }

-- commands have begun where they have
doing : {A : Type 0} → Doing ≡ Asking → A
doing asking = absurd cc

-- one more command with a place that fits leaves what was read good, in a group or outside of one
numbered-good : (catalog : Catalog) (state : ReadState) (group' : GroupState) (names : Naming) (dropped : List Word) (numbered : NumberedTree) → state.group ≡ group' → IsGood catalog state
    → IsPlacedAmong (rooms_of state.rooms) numbered.command → IsFit catalog numbered.command
    → IsGood catalog (with_numbered (record state { names = names; dropped = dropped }) group' numbered)
numbered-good catalog state outside names dropped numbered at good is fits = record {
  before = doing;
  placed = all-more (IsPlaced (rooms_of state.rooms)) state.parts (one numbered) good.placed is;
  fits = all-more (EachCommand (IsFit catalog)) state.parts (one numbered) good.fits fits;
  work_placed = good.work_placed;
  work_fits = good.work_fits;
}
numbered-good catalog state begun names dropped numbered at good is fits = record {
  before = doing;
  placed = all-more (IsPlaced (rooms_of state.rooms)) state.parts (one numbered) good.placed is;
  fits = all-more (EachCommand (IsFit catalog)) state.parts (one numbered) good.fits fits;
  work_placed = good.work_placed;
  work_fits = good.work_fits;
}
numbered-good catalog state (working workers commands) names dropped numbered at good is fits = record {
  before = doing;
  placed = good.placed;
  fits = good.fits;
  work_placed =
      work-more (λ (n : NumberedTree). IsPlacedAmong (rooms_of state.rooms) n.command) workers commands numbered
      (subst (λ (g : GroupState). IsPlaced (rooms_of state.rooms) (group_part g)) at good.work_placed) is;
  work_fits =
      work-more (λ (n : NumberedTree). IsFit catalog n.command) workers commands numbered
      (subst (λ (g : GroupState). EachCommand (IsFit catalog) (group_part g)) at good.work_fits) fits;
}

command-good : (catalog : Catalog) (state : ReadState) (names : Naming) (dropped : List Word) (line : ℕ) (command : CommandTree) → IsGood catalog state
    → IsPlacedAmong (rooms_of state.rooms) command → IsFit catalog command → IsGood catalog (with_command (record state { names = names; dropped = dropped }) line (Some command))
command-good catalog state names dropped line command good is fits =
    numbered-good catalog state state.group names dropped (record { line = line; command = command }) refl good is fits

-- so does the line that begins a group, begins a worker, or ends a group
group-good : (catalog : Catalog) (state : ReadState) (names : Naming) → IsGood catalog state → IsGood catalog (with_group (record state { names = names }))
group-good catalog state names good = record { before = doing; placed = good.placed; fits = good.fits; work_placed = tt; work_fits = tt }

worker-good : (catalog : Catalog) (state : ReadState) (names : Naming) → IsGood catalog state → IsGood catalog (with_worker (record state { names = names }))
worker-good catalog state names good = record {
  before = doing;
  placed = good.placed;
  fits = good.fits;
  work_placed =
      all-more (AllByRecursion (λ (n : NumberedTree). IsPlacedAmong (rooms_of state.rooms) n.command)) (workers_of state.group) [] good.work_placed tt;
  work_fits = all-more (AllByRecursion (λ (n : NumberedTree). IsFit catalog n.command)) (workers_of state.group) [] good.work_fits tt;
}

end-good : (catalog : Catalog) (state : ReadState) (names : Naming) → IsGood catalog state → IsGood catalog (without_group (record state { names = names }))
end-good catalog state names good = record {
  before = doing;
  placed = all-more (IsPlaced (rooms_of state.rooms)) state.parts (group_part state.group) good.placed good.work_placed;
  fits = all-more (EachCommand (IsFit catalog)) state.parts (group_part state.group) good.fits good.work_fits;
  work_placed = tt;
  work_fits = tt;
}

-- a line that is taken leaves what was read good
pub after-good : (catalog : Catalog) (folds : List Word) (state : ReadState) (line : ℕ) (said : SaidTree) → IsGood catalog state → SaidFits catalog state.names said
    → room_fault catalog state said ≡ None → knows catalog folds state said ≡ true → IsGood catalog (after catalog state line said)
after-good catalog folds state line (room table (Some slots)) good fits opens is = room-good catalog state table slots good opens
after-good catalog folds state line (room table None) good fits opens is = good
after-good catalog folds state line (load table file) good fits opens is =
    command-good catalog state state.names state.dropped line _ good (has-place state.rooms table is) tt
after-good catalog folds state line (add table name row) good fits opens is =
    command-good catalog state (names_after state.names line (add table name row)) state.dropped line _ good
    (has-place state.rooms table (first-true (has_room state.rooms table) (not (is_taken state.names name)) is)) fits
after-good catalog folds state line (get name) good fits opens is =
    command-good catalog state state.names state.dropped line _ good (named-place state.rooms (table_known state.names name) is) tt
after-good catalog folds state line (set name column (Some value)) good fits opens is =
    let kind = kind_named catalog state.names name column in
    command-good catalog state state.names state.dropped line _ good
    (named-place state.rooms (table_known state.names name) (first-true (is_given state name) (may_write kind) is))
    (column-fits catalog (table_known state.names name) column value fits.0 fits.1 fits.2 (second-true (is_given state name) (may_write kind) is))
after-good catalog folds state line (set name column None) good fits opens is = good
after-good catalog folds state line (remove name) good fits opens is =
    command-good catalog state state.names state.dropped line _ good (named-place state.rooms (table_known state.names name) is) tt
after-good catalog folds state line (delete table cond) good fits opens is =
    command-good catalog state state.names state.dropped line _ good (has-place state.rooms table is) tt
after-good catalog folds state line (update table column value filter) good fits opens is =
    command-good catalog state state.names state.dropped line _ good
    (has-place state.rooms table (first-true (has_room state.rooms table) (may_write (column_kind catalog table column)) is)) tt
after-good catalog folds state line (query tree) good fits opens is =
    command-good catalog state state.names state.dropped line _ good
    (named-place state.rooms (table_named catalog tree.table) (first-true (is_placed state.rooms (table_named catalog tree.table)) (knows_folds folds state.dropped tree.items) is)) tt
after-good catalog folds state line (compact table) good fits opens is =
    command-good catalog state state.names state.dropped line _ good (has-place state.rooms table is) tt
after-good catalog folds state line (stat table) good fits opens is =
    command-good catalog state state.names state.dropped line _ good (has-place state.rooms table is) tt
after-good catalog folds state line (drop_fold name) good fits opens is =
    command-good catalog state state.names (dropped_after state.dropped (drop_fold name)) line _ good tt tt
after-good catalog folds state line group good fits opens is = group-good catalog state (names_after state.names line group) good
after-good catalog folds state line worker good fits opens is = worker-good catalog state (names_after state.names line worker) good
after-good catalog folds state line end good fits opens is = end-good catalog state (names_after state.names line end) good
