-- The lines of a schedule behind the first, as the format has them: which words spell what.
use Rattle.std.specs.Prelude.{◌≡◌, ℕ, IsTrue, List, [], ◌∷◌, ◌++◌, length, codes, None, Some}
use Rattle.std.specs.declared.option.Option.{Option}
use Rattle.smc_lines.specs.Words.{words}
use Rattle.smc_schedule.specs.Calls.{index_of, value_of, values_of}
use Rattle.smc_schedule.specs.Names.{is_name}
use Rattle.smc_schedule.specs.declared.call.StartCall.{StartCall}
use Rattle.smc_schedule.specs.declared.call.StartCall.TheVariants.{Enter, Leave, Advance, Add, Look, Read, Write, Remove, Scan, Next, Begin, Finish, Cancel}
use Rattle.smc_schedule.specs.declared.line.Act.{Act}
use Rattle.smc_schedule.specs.declared.line.Act.TheVariants.{Start, Run, Step, RunOn}
use Rattle.smc_schedule.specs.declared.line.ScheduleLine.{ScheduleLine}

-- a name
abbrev pub IsName : List ℕ → Type 0
IsName word = IsTrue (is_name word)

-- the words spell the call, where a record has so many fields
abbrev pub SpellsCall : ℕ → List (List ℕ) → StartCall → Type 0
SpellsCall width words Enter = words ≡ codes "enter" ∷ []
SpellsCall width words Leave = words ≡ codes "leave" ∷ []
SpellsCall width words Advance = words ≡ codes "advance" ∷ []
SpellsCall width words (Add name from values) =
    (f : List ℕ) × (vs : List (List ℕ)) × (words ≡ codes "add" ∷ name ∷ f ∷ vs) × IsName name × (index_of f ≡ Some from) × (values_of vs ≡ Some values)
    × (length values ≡ width)
SpellsCall width words (Look name) = (words ≡ codes "look" ∷ name ∷ []) × IsName name
SpellsCall width words (Read name field) = (f : List ℕ) × (words ≡ codes "read" ∷ name ∷ f ∷ []) × IsName name × (index_of f ≡ Some field)
SpellsCall width words (Write name field value) =
    (f : List ℕ) × (v : List ℕ) × (words ≡ codes "write" ∷ name ∷ f ∷ v ∷ []) × IsName name × (index_of f ≡ Some field) × (value_of v ≡ Some value)
SpellsCall width words (Remove name) = (words ≡ codes "remove" ∷ name ∷ []) × IsName name
SpellsCall width words Scan = words ≡ codes "scan" ∷ []
SpellsCall width words Next = words ≡ codes "next" ∷ []
SpellsCall width words Begin = words ≡ codes "begin" ∷ []
SpellsCall width words Finish = words ≡ codes "finish" ∷ []
SpellsCall width words Cancel = words ≡ codes "cancel" ∷ []

-- the words behind the pass spell what it is to do
abbrev pub SpellsAct : ℕ → List (List ℕ) → Act → Type 0
SpellsAct width words (Start call) = SpellsCall width words call
SpellsAct width words (Run call) = (front : List (List ℕ)) × (words ≡ front ++ codes "!" ∷ []) × SpellsCall width front call
SpellsAct width words Step = words ≡ codes "." ∷ []
SpellsAct width words RunOn = words ≡ codes "!" ∷ []

-- the line spells a pass, and what it is to do
abbrev pub SpellsLine : ℕ → List ℕ → ScheduleLine → Type 0
SpellsLine width text line = (pass : List ℕ) × (act : List (List ℕ)) × (words text ≡ pass ∷ act) × (index_of pass ≡ Some line.pass) × SpellsAct width act line.act

-- what an answer says of the line: it spells this, or nothing
abbrev pub Reads : ℕ → List ℕ → Option ScheduleLine → Type 0
Reads width text (Some line) = SpellsLine width text line
Reads width text None = (line : ScheduleLine) → ¬ SpellsLine width text line
