-- What the running of a script does and writes.
use Rattle.std.specs.Prelude.{◌≡◌, ℕ, List, [], ◌∷◌, ◌++◌, map, take, Option, Some, None}
use Rattle.std.specs.List.{AllZip}
use Rattle.std.specs.Io.KnownBytes.{Appends, Keeps}
use Rattle.smc_outside.specs.Pieces.{AppendsFront}
use Rattle.smc_shape.specs.declared.coll.CollShape.{CollShape}
use Rattle.smc_shape.specs.Faults.{fault_of}
use Rattle.smc_shape.specs.Layout.{Layout, asked}
use Rattle.smc_core.specs.declared.section.TheConstants.{FIRST_EPOCH}
use Rattle.smc_region.specs.Callers.{Caller}
use Rattle.smc_region.specs.Ends.{Ended}
use Rattle.smc_region.specs.Reached.{IsReached}
use Rattle.smc_trace.specs.Trace.{CallEnd, IsTrace}
use Rattle.smc_does.specs.Does.{DoesSome}
use Rattle.smc_types.specs.Tables.{the_tables}
use Rattle.smc_script.specs.declared.script.Room.{Room}
use Rattle.smc_script.specs.Tables.{table_width}
use Rattle.smc_script.specs.Trees.{PartTree, ScriptTree}
use Rattle.smc_replies.specs.Books.{Books, books_of}
use Rattle.smc_folds.specs.Kinds.{Kind}
use Rattle.smc_query.specs.Trees.{Word}
use Rattle.smc_load.specs.Files.{Told}
use Rattle.smc_load.specs.declared.fault.LoadFault.{LoadFault}
use Rattle.smc_load.specs.declared.fault.LoadFault.TheVariants as load
use Rattle.smc_replies.specs.Loads.{Scene}
use Rattle.smc_replies.specs.Scripts.{RunsPart, RunsParts, StopsPart}
use Rattle.smc_desk.specs.Scenes.{scene_of}
use Rattle.smc_runner.specs.declared.ending.RunEnd.{RunEnd}
use Rattle.smc_runner.specs.declared.ending.RunEnd.TheVariants.{Done, WriteFault, NoFile, BadTable, TableFull, ReadFault, NoMemory}

-- ---- the region of a script

-- what is asked of the region: a collection for each room, whose records are as wide as its table's
abbrev pub colls_asked : List Room → List CollShape
colls_asked rooms = map (λ room. let coll : CollShape = record { width = table_width the_tables room.place.table; slots = room.slots } in coll) rooms

-- it has one pass
abbrev pub shape_asked : List Room → Layout
shape_asked rooms = asked 1 (colls_asked rooms)

-- a region may have these collections; a script without rooms opens none
abbrev pub MayOpen : List Room → Type 0
MayOpen [] = Unit {0}
MayOpen (room ∷ later) = fault_of 1 (colls_asked (room ∷ later)) ≡ None

-- ---- parts that are run by a pass

-- parts were run by these calls, with what was known before them and after them, and what was written grew in this way by
-- their replies
abbrev pub Replies : Scene → (Option (List ℕ) → Option (List ℕ) → List ℕ → Type 0) → List PartTree → Books → Books → List CallEnd → Option (List ℕ) → Option (List ℕ) → Type 0
Replies scene grows parts known now calls before after = (text : List ℕ) × RunsParts scene parts known now calls text × grows before after text

-- the same of one part
abbrev pub Replied : Scene → (Option (List ℕ) → Option (List ℕ) → List ℕ → Type 0) → PartTree → Books → Books → List CallEnd → Option (List ℕ) → Option (List ℕ) → Type 0
Replied scene grows part known now calls before after = (text : List ℕ) × RunsPart scene part known now calls text × grows before after text

-- what is written of a text, as its writing ends: all of it, or a front
abbrev pub Writes : RunEnd → Option (List ℕ) → Option (List ℕ) → List ℕ → Type 0
Writes Done before after text = Appends before after text
Writes WriteFault before after text = AppendsFront before after text
Writes end before after text = ⊥

-- how the running ends where a load of this file stops at a fault
abbrev pub end_of : Word → LoadFault → RunEnd
end_of file load.NoFile = NoFile file
end_of file (load.Tbl line fault) = BadTable file line
end_of file (load.Full line) = TableFull file line
end_of file load.ReadFault = ReadFault
end_of file load.NoMemory = NoMemory

-- the part is a load that stops behind these calls, where the running ends so
abbrev pub StopsAs : Scene → RunEnd → PartTree → Books → List CallEnd → Type 0
StopsAs scene end part known calls = (file : Word) × (fault : LoadFault) × (end ≡ end_of file fault) × StopsPart scene file fault part known calls

-- how one part ends; where it stops, and without memory, nothing was written
abbrev pub PartEnds : Scene → RunEnd → PartTree → Books → Books → Caller → Caller → Option (List ℕ) → Option (List ℕ) → Type 0
PartEnds scene Done part known now old new before after = DoesSome old new (λ calls. Replied scene Appends part known now calls before after)
PartEnds scene WriteFault part known now old new before after = DoesSome old new (λ calls. Replied scene AppendsFront part known now calls before after)
PartEnds scene NoMemory part known now old new before after = Keeps before after
PartEnds scene end part known now old new before after = DoesSome old new (StopsAs scene end part known) × Keeps before after

-- the first parts, as many as were run, were run by these calls, and a front of their replies was written
abbrev pub RepliesFront : Scene → List PartTree → Books → List CallEnd → Option (List ℕ) → Option (List ℕ) → Type 0
RepliesFront scene parts known calls before after = (count : ℕ) × (now : Books) × Replies scene AppendsFront (take count parts) known now calls before after

-- all parts were run by these calls, and all their replies were written
abbrev pub RepliesAll : Scene → List PartTree → Books → List CallEnd → Option (List ℕ) → Option (List ℕ) → Type 0
RepliesAll scene parts known calls before after = (now : Books) × Replies scene Appends parts known now calls before after

-- the parts before one were run, and all their replies were written; it is a load that stopped behind further calls
pub record StopsWithin (scene : Scene) (end : RunEnd) (parts : List PartTree) (known : Books) (calls : List CallEnd) (before after : Option (List ℕ)) : Type 0 where
  pub run : List PartTree
  pub part : PartTree
  pub behind : List PartTree
  pub now : Books
  pub first : List CallEnd
  pub rest : List CallEnd
  pub are : parts ≡ run ++ part ∷ behind
  pub replied : Replies scene Appends run known now first before after
  pub stops : StopsAs scene end part now rest
  pub made : calls ≡ first ++ rest

-- how parts end
abbrev pub PartsEnd : Scene → RunEnd → List PartTree → Books → Caller → Caller → Option (List ℕ) → Option (List ℕ) → Type 0
PartsEnd scene Done parts known old new before after = DoesSome old new (λ calls. RepliesAll scene parts known calls before after)
PartsEnd scene WriteFault parts known old new before after = DoesSome old new (λ calls. RepliesFront scene parts known calls before after)
PartsEnd scene NoMemory parts known old new before after = (calls : List CallEnd) × RepliesFront scene parts known calls before after
PartsEnd scene end parts known old new before after = DoesSome old new (λ calls. StopsWithin scene end parts known calls before after)

-- ---- the closed region

-- the passes of the closed region have done this, and no more
abbrev pub AreTraces : Ended → List (List CallEnd) → Type 0
AreTraces quiet traces = AllZip IsTrace quiet.locals traces

-- a region of this shape, closed in a state that it reached, whose one pass has made these calls
pub record IsClosed (shape : Layout) (quiet : Ended) (calls : List CallEnd) : Type 0 where
  pub same_shape : quiet.shape ≡ shape
  pub opening : quiet.opening ≡ record { epoch = FIRST_EPOCH; incarnation = 0 }
  pub reached : IsReached quiet.shape quiet.opening quiet.words quiet.locals
  pub traces : AreTraces quiet (calls ∷ [])

-- there is such a region
abbrev pub HasClosed : Layout → Option Ended → List CallEnd → Type 0
HasClosed shape None calls = ⊥
HasClosed shape (Some quiet) calls = IsClosed shape quiet calls

-- the region of these rooms was closed so; where there are none there is no region, and no calls are made
abbrev pub Closes : List Room → Option Ended → List CallEnd → Type 0
Closes [] None calls = calls ≡ []
Closes [] (Some quiet) calls = ⊥
Closes (room ∷ later) quiet calls = HasClosed (shape_asked (room ∷ later)) quiet calls

-- ---- a script

-- how the running of parts ends, before which these folds were handed in and no more was known: by calls that are those of the
-- closed region
abbrev pub RunsAs : (Option Ended → List CallEnd → Type 0) → Scene → List Kind → RunEnd → List PartTree → Option Ended → Option (List ℕ) → Option (List ℕ) → Type 0
RunsAs Closed scene kinds Done parts quiet before after = (calls : List CallEnd) × RepliesAll scene parts (books_of kinds) calls before after × Closed quiet calls
RunsAs Closed scene kinds WriteFault parts quiet before after = (calls : List CallEnd) × RepliesFront scene parts (books_of kinds) calls before after × Closed quiet calls
RunsAs Closed scene kinds NoMemory parts quiet before after = (calls : List CallEnd) × RepliesFront scene parts (books_of kinds) calls before after × (quiet ≡ None)
RunsAs Closed scene kinds end parts quiet before after = (calls : List CallEnd) × StopsWithin scene end parts (books_of kinds) calls before after × Closed quiet calls

-- how the running of a script over these files and folds ends
abbrev pub RunsTo : RunEnd → Told → List Kind → ScriptTree → Option Ended → Option (List ℕ) → Option (List ℕ) → Type 0
RunsTo end files kinds script quiet before after =
    RunsAs (Closes script.rooms) (scene_of files (shape_asked script.rooms) script.folds) kinds end script.parts quiet before after
