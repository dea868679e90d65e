-- What a line says, by the names that were given before it and by nothing else that went before.
use Rattle.std.specs.Prelude.{◌≡◌, ◌⊎◌, ℕ, ◌*◌, ◌≤◌, Bool, true, false, ◌&&◌, nat_lt, nat_le, if◌then◌else◌, List, [], ◌∷◌, length, codes, Option, Some, None}
use Rattle.std.specs.Int.{div_ceil}
use Rattle.std.specs.List.{list_all}
use Rattle.std.specs.Option.{option_map}
use Rattle.std.specs.Str.{bytes_eq}
use Rattle.smc_lang.specs.Texts.{ReadsText}
use Rattle.smc_lang.specs.declared.limits.TheConstants.{MAX_TEXT}
use Rattle.smc_lang.specs.declared.fault.ParseFault.{ParseFault}
use Rattle.smc_lang.specs.declared.fault.ParseFault.TheVariants.{NoMemory}
use Rattle.smc_lines.specs.Numbers.{is_number, decimal_value}
use Rattle.smc_lines.specs.Words.{words}
use Rattle.smc_query.specs.Trees.{Word, CondTree, ExprTree, QueryTree, a_cond, a_query, an_edit, cond_text, cond_tree, edit_text, expr_tree, filter_tree, query_text, query_tree}
use Rattle.smc_query.specs.declared.cond.Cond.{Cond}
use Rattle.smc_query.specs.declared.expr.Expr.{Expr}
use Rattle.smc_query.specs.declared.query.Query.{Query}
use Rattle.smc_tbl.specs.Alone.{SpellsAlone}
use Rattle.smc_tbl.specs.TableText.{SpellsRow}
use Rattle.smc_tbl.specs.declared.fault.TblFault.{TblFault}
use Rattle.smc_tbl.specs.declared.fault.TblFault.TheVariants as row_fault
use Rattle.smc_types.specs.declared.catalog.Catalog.{Catalog}
use Rattle.smc_types.specs.declared.column.FieldType.{FieldType}
use Rattle.smc_types.specs.declared.row.Value.{Value}
use Rattle.smc_types.specs.declared.schema.Schema.{Schema}
use Rattle.smc_shape.specs.declared.coll.TheConstants.{BLOCK_SLOTS}
use Rattle.smc_script.specs.Names.{Naming, is_script_name, table_known}
use Rattle.smc_script.specs.Tables.{kind_of, schema_of, table_named}
use Rattle.smc_script.specs.declared.limits.TheConstants.{MAX_FILE, MAX_DIGITS, MAX_SLOTS}
use Rattle.smc_script.specs.declared.said.Said.{Said}
use Rattle.smc_script.specs.declared.said.Said.TheVariants as of
use Rattle.smc_script.specs.declared.verb.Verb.{Verb}
use Rattle.smc_script.specs.declared.verb.Verb.TheVariants as verb

-- What a line says. The slots that a room asks for are in whole blocks; a number out of its range asks for none. A value
-- is set that the column of the named object can have; where there is no such column, none.
pub data SaidTree : Type 0 where
  room : (table : ℕ) → (slots : Option ℕ) → SaidTree
  load : (table : ℕ) → (file : Word) → SaidTree
  add : (table : ℕ) → (name : Word) → (row : List Value) → SaidTree
  get remove : (name : Word) → SaidTree
  set : (name column : Word) → (value : Option Value) → SaidTree
  delete : (table : ℕ) → CondTree → SaidTree
  update : (table : ℕ) → (column : Word) → ExprTree → Option CondTree → SaidTree
  query : QueryTree → SaidTree
  compact stat : (table : ℕ) → SaidTree
  drop_fold : (name : Word) → SaidTree
  group worker end : SaidTree

-- the tree of what a line says
abbrev pub said_tree : Said → SaidTree
said_tree (of.Room table slots) = room table slots
said_tree (of.Load table file) = load table file
said_tree (of.Add table name row) = add table name row
said_tree (of.Get name) = get name
said_tree (of.Set name column value) = set name column value
said_tree (of.Remove name) = remove name
said_tree (of.Delete table filter) = delete table (cond_tree filter)
said_tree (of.Update table column value filter) = update table column (expr_tree value) (filter_tree filter)
said_tree (of.Query query') = query (query_tree query')
said_tree (of.Compact table) = compact table
said_tree (of.Stat table) = stat table
said_tree (of.DropFold name) = drop_fold name
said_tree of.Group = group
said_tree of.Worker = worker
said_tree of.End = end

-- ---- commands that are words alone

-- printable ASCII other than the space
abbrev pub is_file_byte : ℕ → Bool
is_file_byte byte = nat_lt 32 byte && nat_lt byte 127

-- one to so many of these bytes
abbrev pub is_file_name : Word → Bool
is_file_name word = nat_lt 0 (length word) && nat_le (length word) MAX_FILE && list_all is_file_byte word

-- a number of slots in its range, rounded up to whole blocks
abbrev pub slots_within : ℕ → Option ℕ
slots_within slots = if nat_le 1 slots && nat_le slots MAX_SLOTS then Some (div_ceil slots BLOCK_SLOTS * BLOCK_SLOTS) else None

-- the slots that digits ask for; too many digits are out of range
abbrev pub slots_asked : Word → Option ℕ
slots_asked digits = if nat_le (length digits) MAX_DIGITS then slots_within (decimal_value digits) else None

-- TABLE N
abbrev pub room_said : Catalog → List Word → Option SaidTree
room_said catalog (table ∷ digits ∷ []) = if is_number digits then option_map (λ t. room t (slots_asked digits)) (table_named catalog table) else None
room_said catalog words = None

-- TABLE FILE
abbrev pub load_said : Catalog → List Word → Option SaidTree
load_said catalog (table ∷ file ∷ []) = if is_file_name file then option_map (λ t. load t file) (table_named catalog table) else None
load_said catalog words = None

-- TABLE
abbrev pub table_said : (ℕ → SaidTree) → Catalog → List Word → Option SaidTree
table_said say catalog (table ∷ []) = option_map say (table_named catalog table)
table_said say catalog words = None

-- NAME
abbrev pub name_said : (Word → SaidTree) → List Word → Option SaidTree
name_said say (name ∷ []) = if is_script_name name then Some (say name) else None
name_said say words = None

-- fold NAME
abbrev pub drop_said : List Word → Option SaidTree
drop_said (word ∷ name ∷ []) = if bytes_eq word (codes "fold") && is_script_name name then Some (drop_fold name) else None
drop_said words = None

-- ---- commands that end in a text

-- Two words and a text behind them: the words name a table, and the text says this of it.
pub record TwoThen (head : Word → Word → Option ℕ) (reads : ℕ → Word → Word → List ℕ → SaidTree → Type 0) (text : List ℕ) (said : SaidTree) : Type 0 where
  pub first : Word
  pub second : Word
  pub behind : List ℕ
  pub table : ℕ
  pub cut : words text ≡ first ∷ second ∷ words behind
  pub is : head first second ≡ Some table
  pub says : reads table first second behind said

-- the text is this query
abbrev pub SaysQuery : List ℕ → QueryTree → Type 0
SaysQuery text tree = (length text ≤ MAX_TEXT) × ReadsText query_text text (a_query tree)

-- a query is what the text says
abbrev pub QuerySays : List ℕ → SaidTree → Type 0
QuerySays text said = (tree : QueryTree) × (said ≡ query tree) × SaysQuery text tree

-- the text is this row of the table with this number
abbrev pub SpellsRowOf : Catalog → ℕ → List ℕ → List Value → Type 0
SpellsRowOf catalog table text row = (schema : Schema) × (schema_of catalog table ≡ Some schema) × SpellsRow schema text row

-- a row of the table is what the text says
abbrev pub RowSays : Catalog → ℕ → (name : Word) → List ℕ → SaidTree → Type 0
RowSays catalog table name text said = (row : List Value) × (said ≡ add table name row) × SpellsRowOf catalog table text row

-- the table that a row is added to, where the name is one
abbrev pub table_added : Catalog → (table name : Word) → Option ℕ
table_added catalog table name = if is_script_name name then table_named catalog table else None

-- TABLE NAME ROW
abbrev pub SaysAdd : Catalog → List ℕ → SaidTree → Type 0
SaysAdd catalog text said = TwoThen (table_added catalog) (λ table _ name. RowSays catalog table name) text said

-- the text is this condition
abbrev pub SaysCond : List ℕ → CondTree → Type 0
SaysCond text cond = (length text ≤ MAX_TEXT) × ReadsText cond_text text (a_cond cond)

-- a condition on the table's objects is what the text says
abbrev pub CondSays : ℕ → List ℕ → SaidTree → Type 0
CondSays table text said = (cond : CondTree) × (said ≡ delete table cond) × SaysCond text cond

-- the table, where this word stands behind its name
abbrev pub table_before : Catalog → Word → (table word : Word) → Option ℕ
table_before catalog expected table word = if bytes_eq word expected then table_named catalog table else None

-- TABLE where COND
abbrev pub SaysDelete : Catalog → List ℕ → SaidTree → Type 0
SaysDelete catalog text said = TwoThen (table_before catalog (codes "where")) (λ table _ _. CondSays table) text said

-- the text is this value, and this condition behind it, where there is one
abbrev pub SaysEdit : List ℕ → ExprTree → Option CondTree → Type 0
SaysEdit text value filter = (length text ≤ MAX_TEXT) × ReadsText edit_text text (an_edit value filter)

-- a value for the column of the table's objects is what the text says
abbrev pub EditSays : ℕ → (column : Word) → List ℕ → SaidTree → Type 0
EditSays table column text said =
    (value : ExprTree) × (filter : Option CondTree) × (said ≡ update table column value filter) × SaysEdit text value filter

-- the table, where a column and a sign of equality stand behind it
abbrev pub column_before : ℕ → (column sign : Word) → Option ℕ
column_before table column sign = if bytes_eq sign (codes "=") && nat_lt 0 (length column) then Some table else None

-- COLUMN = EXPR [where COND]
abbrev pub ColumnSays : ℕ → List ℕ → SaidTree → Type 0
ColumnSays table text said = TwoThen (column_before table) (λ same column _. EditSays same column) text said

-- TABLE set COLUMN = EXPR [where COND]
abbrev pub SaysUpdate : Catalog → List ℕ → SaidTree → Type 0
SaysUpdate catalog text said = TwoThen (table_before catalog (codes "set")) (λ table _ _. ColumnSays table) text said

-- the text is this value of a column, where there is one; else no value is read from it
abbrev pub SaysValue : Option FieldType → List ℕ → Option Value → Type 0
SaysValue None text value = value ≡ None
SaysValue (Some kind) text (Some value) = SpellsAlone kind text value
SaysValue (Some kind) text None = ⊥

-- a name, and a column that is a word
abbrev pub is_set : (name column : Word) → Bool
is_set name column = is_script_name name && nat_lt 0 (length column)

-- the type of the column of the object with this name
abbrev pub kind_named : Catalog → Naming → (name column : Word) → Option FieldType
kind_named catalog names name column = kind_of catalog (table_known names name) column

-- NAME COLUMN VALUE
pub record SaysSet (catalog : Catalog) (names : Naming) (text : List ℕ) (said : SaidTree) : Type 0 where
  pub name : Word
  pub column : Word
  pub value_text : Word
  pub value : Option Value
  pub cut : words text ≡ name ∷ column ∷ value_text ∷ []
  pub head : is_set name column ≡ true
  pub spells : SaysValue (kind_named catalog names name column) value_text value
  pub says : said ≡ set name column value

-- ---- lines

-- what a word of groups says, which is a line of its own
abbrev pub mark_of : Word → Option SaidTree
mark_of word =
    if bytes_eq word (codes "group") then Some group
    else if bytes_eq word (codes "worker") then Some worker
    else if bytes_eq word (codes "end") then Some end
    else None

-- the line says this: it is a word of groups
pub record MarkSays (line : List ℕ) (said : SaidTree) : Type 0 where
  pub word : Word
  pub cut : words line ≡ word ∷ []
  pub is : mark_of word ≡ Some said

-- the command that a line begins with
abbrev pub verb_of : Word → Option Verb
verb_of word =
    if bytes_eq word (codes "room") then Some verb.Room
    else if bytes_eq word (codes "load") then Some verb.Load
    else if bytes_eq word (codes "add") then Some verb.Add
    else if bytes_eq word (codes "get") then Some verb.Get
    else if bytes_eq word (codes "set") then Some verb.Set
    else if bytes_eq word (codes "remove") then Some verb.Remove
    else if bytes_eq word (codes "delete") then Some verb.Delete
    else if bytes_eq word (codes "update") then Some verb.Update
    else if bytes_eq word (codes "query") then Some verb.Query
    else if bytes_eq word (codes "compact") then Some verb.Compact
    else if bytes_eq word (codes "stat") then Some verb.Stat
    else if bytes_eq word (codes "drop") then Some verb.Drop
    else None

-- the text behind the word of a command says this
abbrev pub VerbSays : Catalog → Naming → Verb → List ℕ → SaidTree → Type 0
VerbSays catalog names verb.Room text said = room_said catalog (words text) ≡ Some said
VerbSays catalog names verb.Load text said = load_said catalog (words text) ≡ Some said
VerbSays catalog names verb.Add text said = SaysAdd catalog text said
VerbSays catalog names verb.Get text said = name_said get (words text) ≡ Some said
VerbSays catalog names verb.Set text said = SaysSet catalog names text said
VerbSays catalog names verb.Remove text said = name_said remove (words text) ≡ Some said
VerbSays catalog names verb.Delete text said = SaysDelete catalog text said
VerbSays catalog names verb.Update text said = SaysUpdate catalog text said
VerbSays catalog names verb.Query text said = QuerySays text said
VerbSays catalog names verb.Compact text said = table_said compact catalog (words text) ≡ Some said
VerbSays catalog names verb.Stat text said = table_said stat catalog (words text) ≡ Some said
VerbSays catalog names verb.Drop text said = drop_said (words text) ≡ Some said

-- the line says this: the word of a command, a space, and a text that says it
pub record CommandSays (catalog : Catalog) (names : Naming) (line : List ℕ) (said : SaidTree) : Type 0 where
  pub word : Word
  pub command : Verb
  pub text : List ℕ
  pub cut : words line ≡ word ∷ words text
  pub is : verb_of word ≡ Some command
  pub says : VerbSays catalog names command text said

-- the line says this, as a word of groups or as a command
abbrev pub LineSays : Catalog → Naming → List ℕ → SaidTree → Type 0
LineSays catalog names line said = MarkSays line said ⊎ CommandSays catalog names line said

-- ---- answers

-- what an answer says: this holds of what was read, or of nothing
abbrev pub IsReadAs : (SaidTree → Type 0) → Option Said → Type 0
IsReadAs holds (Some said) = holds (said_tree said)
IsReadAs holds None = (said : SaidTree) → ¬ holds said

-- what an answer says of the text behind a word: it says this, or nothing
abbrev pub IsSaidBy : Catalog → Naming → Verb → List ℕ → Option Said → Type 0
IsSaidBy catalog names command text said = IsReadAs (VerbSays catalog names command text) said

-- what an answer says of the line: it says this, or nothing
abbrev pub IsSaid : Catalog → Naming → List ℕ → Option Said → Type 0
IsSaid catalog names line said = IsReadAs (LineSays catalog names line) said

-- what an answer says of a text: it is this query, or none
abbrev pub IsQueryRead : List ℕ → Option Query → Type 0
IsQueryRead text (Some read) = SaysQuery text (query_tree read)
IsQueryRead text None = (tree : QueryTree) → ¬ SaysQuery text tree

-- what an answer says of a text: it is this condition, or none
abbrev pub IsCondRead : List ℕ → Option Cond → Type 0
IsCondRead text (Some read) = SaysCond text (cond_tree read)
IsCondRead text None = (cond : CondTree) → ¬ SaysCond text cond

-- what an answer says of a text: it is this value with its condition, or none
abbrev pub IsEditRead : List ℕ → Option (Expr × Option Cond) → Type 0
IsEditRead text (Some read) = SaysEdit text (expr_tree read.0) (filter_tree read.1)
IsEditRead text None = (value : ExprTree) (filter : Option CondTree) → ¬ SaysEdit text value filter

-- what an answer says of a text: it is this row of the table, or none
abbrev pub IsRowRead : Catalog → ℕ → List ℕ → Option (List Value) → Type 0
IsRowRead catalog table text (Some row) = SpellsRowOf catalog table text row
IsRowRead catalog table text None = (row : List Value) → ¬ SpellsRowOf catalog table text row

-- what an answer says of a text: it is this value of the column, or none of its values
abbrev pub IsValueRead : Option FieldType → List ℕ → Option (Option Value) → Type 0
IsValueRead kind text (Some value) = SaysValue kind text value
IsValueRead kind text None = (value : Option Value) → ¬ SaysValue kind text value

-- whether memory was refused
abbrev pub is_memory : ParseFault → Bool
is_memory NoMemory = true
is_memory _ = false

-- the same of a row
abbrev pub is_row_memory : TblFault → Bool
is_row_memory row_fault.NoMemory = true
is_row_memory _ = false
