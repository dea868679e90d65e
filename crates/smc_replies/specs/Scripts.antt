-- What the parts of a script do, one behind another.
use Rattle.std.specs.Prelude.{◌≡◌, ℕ, Bool, false, if◌then◌else◌, Option, Some, None, List, [], ◌∷◌, ◌++◌}
use Rattle.smc_shape.specs.Layout.{Layout}
use Rattle.smc_trace.specs.Trace.{CallEnd}
use Rattle.smc_query.specs.Trees.{Word}
use Rattle.smc_load.specs.declared.fault.LoadFault.{LoadFault}
use Rattle.smc_script.specs.Trees.{NumberedTree, PartTree, one, group}
use Rattle.smc_replies.specs.Books.{Books}
use Rattle.smc_replies.specs.Loads.{Scene}
use Rattle.smc_replies.specs.Commands.{CanRun, RunsCommand, StopsIn, is_known}

-- the line of the first command of these
abbrev pub first_line : List NumberedTree → ℕ
first_line [] = 0
first_line (numbered ∷ later) = numbered.line

-- the line of the first command of a part
abbrev pub line_of : PartTree → ℕ
line_of (one numbered) = numbered.line
line_of (group []) = 0
line_of (group (worker ∷ later)) = first_line worker

-- the parts that are run: a group is refused as a command is that is not
abbrev pub is_known_part : List Word → PartTree → Bool
is_known_part folds (one numbered) = is_known folds numbered.command
is_known_part folds (group workers) = false

-- the line at which the first part that is not run begins
abbrev pub unknown_line : List Word → List PartTree → Option ℕ
unknown_line folds [] = None
unknown_line folds (part ∷ later) = if is_known_part folds part then unknown_line folds later else Some (line_of part)

-- the part may be run on a region of this shape, where the script was read with folds of these names
abbrev pub CanRunPart : Layout → List Word → PartTree → Type 0
CanRunPart shape folds (one numbered) = CanRun shape folds numbered.command
CanRunPart shape folds (group workers) = ⊥

-- in this scene a part, with what was known before it and what is known after it, makes these calls, and this is its reply
abbrev pub RunsPart : Scene → PartTree → Books → Books → List CallEnd → List ℕ → Type 0
RunsPart scene (one numbered) old new calls text = RunsCommand scene numbered.command old new calls text
RunsPart scene (group workers) old new calls text = ⊥

-- parts that are run one behind another: their calls and their replies in one list
abbrev pub RunsParts : Scene → List PartTree → Books → Books → List CallEnd → List ℕ → Type 0
RunsParts scene [] old new calls text = (new ≡ old) × (calls ≡ []) × (text ≡ [])
RunsParts scene (part ∷ later) old new calls text = (middle : Books) × (first rest : List CallEnd) × (said behind : List ℕ) × RunsPart scene part old middle first said
    × RunsParts scene later middle new rest behind × (calls ≡ first ++ rest) × (text ≡ said ++ behind)

-- the part is a load of this file, which stops at the fault behind these calls
abbrev pub StopsPart : Scene → Word → LoadFault → PartTree → Books → List CallEnd → Type 0
StopsPart scene named fault (one numbered) old calls = StopsIn scene named fault numbered.command old calls
StopsPart scene named fault (group workers) old calls = ⊥
