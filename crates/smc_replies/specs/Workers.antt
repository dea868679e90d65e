-- What the workers of a group do, each beside the others, by the names and keys that were known at `group`.
use Rattle.std.specs.Prelude.{◌≡◌, ℕ, if◌then◌else◌, List, [], ◌∷◌, ◌++◌, codes, Option, Some, None, slice_index}
use Rattle.smc_words.specs.declared.number.Number.{Number}
use Rattle.smc_trace.specs.Named.{learns, notes}
use Rattle.smc_trace.specs.Trace.{CallEnd}
use Rattle.smc_compact.specs.Drives.{Drives}
use Rattle.smc_compact.specs.declared.outcome.Outcome.{Outcome}
use Rattle.smc_types.specs.Keys.{Puts}
use Rattle.smc_types.specs.Tables.{the_tables}
use Rattle.smc_types.specs.declared.row.Value.{Value}
use Rattle.smc_types.specs.declared.schema.Schema.{Schema}
use Rattle.smc_query.specs.Trees.{Word}
use Rattle.smc_script.specs.Tables.{schema_of}
use Rattle.smc_script.specs.Trees.{CommandTree, NumberedTree, load, add, compact, drop_fold}
use Rattle.smc_script.specs.declared.script.Place.{Place}
use Rattle.smc_load.specs.Loading.{AddsAs, Entries, RefusesRow}
use Rattle.smc_replies.specs.Books.{Books, Named, with_name}
use Rattle.smc_replies.specs.Commands.{RunsCommand, reply_by}
use Rattle.smc_replies.specs.Loads.{Scene}
use Rattle.smc_replies.specs.Objects.{add_line, words_of}
use Rattle.smc_replies.specs.declared.added.Added.{Added}
use Rattle.smc_replies.specs.declared.limits.TheConstants.{COMPACT_TURNS}

-- ---- what a worker knows

-- the names, with those that were given to what was added, one behind another
abbrev pub with_added : List Added → List Named → List Named
with_added [] names = names
with_added (added ∷ later) names = with_added later (with_name added.name added.number names)

-- the names that a worker gave
abbrev pub names_given : List Added → List Named
names_given added = with_added added []

-- what a worker knows that has added this: the names that it gave, before those that were known at `group`; the keys that were
-- known then; and no folds
abbrev pub books_beside : Books → List Added → Books
books_beside known added = record { names = names_given added ++ known.names; keys = known.keys; folds = [] }

-- ---- add

-- the row is added as this object of the collection, or is refused
abbrev pub AddsOrNot : Option Number → Schema → (coll : ℕ) → Entries → (words : List ℕ) → List CallEnd → Type 0
AddsOrNot (Some number) schema coll keys words calls = AddsAs schema coll keys words number calls
AddsOrNot None schema coll keys words calls = RefusesRow schema coll keys words calls

-- the key of a row with these words, where the objects of its table are found by one
abbrev pub key_of : Schema → List ℕ → Option ℕ
key_of schema words = if schema.keyed then Some (slice_index words 0) else None

-- what is kept of a row that was added as this object, or refused
abbrev pub added_as : Option Number → Schema → Place → (name : Word) → (words : List ℕ) → Added
added_as object schema place name words = record { name = name; table = place.table; key = key_of schema words; number = object }

-- the row is added as an object of the table, or is refused, by the keys that were known at `group`; what is to be known of it
-- behind the group is kept
pub record AddsBeside (schema : Schema) (keys : Entries) (place : Place) (name : Word) (row : List Value) (old new : List Added) (calls : List CallEnd) (text : List ℕ) : Type 0 where
  pub object : Option Number
  pub adds : AddsOrNot object schema place.coll keys (words_of schema row) calls
  pub kept : new ≡ old ++ added_as object schema place name (words_of schema row) ∷ []
  pub reply : text ≡ add_line object name

-- a row is added so by the columns of its table
abbrev pub AddsBesideBy : Option Schema → Entries → Place → Word → List Value → List Added → List Added → List CallEnd → List ℕ → Type 0
AddsBesideBy None keys place name row old new calls text = ⊥
AddsBesideBy (Some schema) keys place name row old new calls text = AddsBeside schema keys place name row old new calls text

-- ---- packing

-- the table is packed by one drive, and nothing is counted
pub record DrivesTable (place : Place) (calls : List CallEnd) (text : List ℕ) : Type 0 where
  pub outcome : Outcome
  pub drives : Drives place.coll COMPACT_TURNS outcome calls
  pub reply : text ≡ reply_by outcome (codes "packed\n")

-- ---- commands

-- in this scene a command of a worker, where this was known at `group` and the worker had added this before it and has added that
-- after it, makes these calls, and this is its reply; a load or a dropped fold is none
abbrev pub WorksCommand : Scene → Books → CommandTree → List Added → List Added → List CallEnd → List ℕ → Type 0
WorksCommand scene known (load place file) old new calls text = ⊥
WorksCommand scene known (drop_fold name) old new calls text = ⊥
WorksCommand scene known (add place name row) old new calls text = AddsBesideBy (schema_of the_tables place.table) known.keys place name row old new calls text
WorksCommand scene known (compact place) old new calls text = (new ≡ old) × DrivesTable place calls text
WorksCommand scene known command old new calls text = (new ≡ old) × RunsCommand scene command (books_beside known old) (books_beside known old) calls text

-- commands of a worker that are run one behind another: their calls in one list, and the reply to each
abbrev pub WorksCommands : Scene → Books → List NumberedTree → List Added → List Added → List CallEnd → List (List ℕ) → Type 0
WorksCommands scene known [] old new calls replies = (new ≡ old) × (calls ≡ []) × (replies ≡ [])
WorksCommands scene known (numbered ∷ later) old new calls replies = (middle : List Added) × (first rest : List CallEnd) × (said : List ℕ) × (behind : List (List ℕ))
    × WorksCommand scene known numbered.command old middle first said × WorksCommands scene known later middle new rest behind × (calls ≡ first ++ rest) × (replies ≡ said ∷ behind)

-- ---- a worker

-- what a worker did: the calls of its pass before the group and in it, what it added, and its replies
pub record Worked : Type 0 where
  pub before : List CallEnd
  pub calls : List CallEnd
  pub added : List Added
  pub replies : List (List ℕ)

-- the pass of a worker learns a note, which tells so many events of the main pass, runs the commands, and makes a note
pub record WorksAs (scene : Scene) (known : Books) (told : ℕ) (commands : List NumberedTree) (worked : Worked) : Type 0 where
  pub made : List CallEnd
  pub note : ℕ
  pub works : WorksCommands scene known commands [] worked.added made worked.replies
  pub are : worked.calls ≡ learns 0 told ++ (made ++ notes note)

-- ---- behind the group

-- the number is put under its key, where it has one and was not refused
abbrev pub PutsUnder : Option ℕ → Option Number → (table : ℕ) → Entries → Entries → Type 0
PutsUnder (Some key) (Some number) table old new = Puts old new table key number
PutsUnder key number table old new = new ≡ old

-- the keys of all that was added are put, one behind another
abbrev pub PutsAll : List Added → Entries → Entries → Type 0
PutsAll [] old new = new ≡ old
PutsAll (added ∷ later) old new = (middle : Entries) × PutsUnder added.key added.number added.table old middle × PutsAll later middle new

-- the names and the keys of all that was added are known, in this order
pub record KnowsAdded (added : List Added) (old new : Books) : Type 0 where
  pub names : new.names ≡ with_added added old.names
  pub keys : PutsAll added old.keys new.keys
  pub folds : new.folds ≡ old.folds
