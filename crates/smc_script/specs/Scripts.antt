-- What a whole text gives: a script, or its first refused line with the kind.
use Rattle.std.specs.Prelude.{if◌then◌else◌, ◌≡◌, ◌⊎◌, ⊤, ℕ, ◌+◌, List, [], ◌∷◌, Result, Ok, Err}
use Rattle.smc_lines.specs.Lines.{lines, IsWithin}
use Rattle.smc_lines.specs.Reading.{PassesLimit}
use Rattle.smc_lines.specs.declared.fault.LinesFault.{LinesFault}
use Rattle.smc_lines.specs.declared.fault.LinesFault.TheVariants as limit
use Rattle.smc_lines.specs.declared.limits.TheConstants.{MAX_LINES}
use Rattle.smc_query.specs.Trees.{Word}
use Rattle.smc_types.specs.declared.catalog.Catalog.{Catalog}
use Rattle.smc_script.specs.Faults.{LineGives}
use Rattle.smc_script.specs.States.{ReadState, is_open, reading, script_of, start}
use Rattle.smc_script.specs.declared.state.Reader.{Reader}
use Rattle.smc_script.specs.Trees.{ScriptTree, script_tree}
use Rattle.smc_script.specs.declared.fault.ScriptFault.{ScriptFault}
use Rattle.smc_script.specs.declared.fault.ScriptFault.TheVariants.{ReadFault, Bad, NoMemory}
use Rattle.smc_script.specs.declared.fault.ScriptKind.{ScriptKind}
use Rattle.smc_script.specs.declared.fault.ScriptKind.TheVariants.{TooLong, TooMany, Group}
use Rattle.smc_script.specs.declared.script.Script.{Script}

-- what a text gives: a script, or the number of its first refused line and the kind
abbrev pub Outcome : Type 0
Outcome = Result ScriptTree ScriptFault

-- behind a line that was taken, the outcome is that of the later lines; a refused line is the outcome
abbrev pub GoesOn : Result ReadState ScriptKind → ℕ → Outcome → (ReadState → Type 0) → Type 0
GoesOn (Ok next) number outcome later = later next
GoesOn (Err kind) number outcome later = outcome ≡ Err (Bad number kind)

-- what the end of so many lines gives: the script that was read, or where a group is not ended the line after the last
abbrev pub end_gives : List Word → ReadState → (number : ℕ) → Outcome
end_gives folds state number = if is_open state.group then Err (Bad (number + 1) Group) else Ok (script_of folds state)

-- what lines give from a state on, where so many lines stand before them
abbrev pub LinesGive : Catalog → List Word → ReadState → ℕ → List (List ℕ) → Outcome → Type 0
LinesGive catalog folds state number [] outcome = outcome ≡ end_gives folds state number
LinesGive catalog folds state number (line ∷ later) outcome =
    (given : Result ReadState ScriptKind) × LineGives catalog folds state (number + 1) line given
    × GoesOn given (number + 1) outcome (λ next. LinesGive catalog folds next (number + 1) later outcome)

-- the fault of a script that has no lines
abbrev pub limit_fault : LinesFault → ScriptFault
limit_fault limit.ReadFault = ReadFault
limit_fault (limit.TooLong line) = Bad line TooLong
limit_fault limit.TooMany = Bad (MAX_LINES + 1) TooMany
limit_fault limit.NoMemory = NoMemory

-- the first line past a limit is the outcome, whatever the lines before it say
abbrev pub IsPastLimit : List ℕ → Outcome → Type 0
IsPastLimit text outcome = (fault : LinesFault) × PassesLimit fault text × (outcome ≡ Err (limit_fault fault))

-- what a text gives: its first line past a limit, or what its lines give from the first on
abbrev pub TextGives : Catalog → List Word → List ℕ → Outcome → Type 0
TextGives catalog folds text outcome = IsPastLimit text outcome ⊎ (IsWithin text × LinesGive catalog folds start 0 (lines text) outcome)

-- the text spells the script
abbrev pub SpellsScript : Catalog → List Word → List ℕ → ScriptTree → Type 0
SpellsScript catalog folds text script = TextGives catalog folds text (Ok script)

-- the line of this number is the first that is refused, and of this kind
abbrev pub IsRefused : Catalog → List Word → List ℕ → ℕ → ScriptKind → Type 0
IsRefused catalog folds text line kind = TextGives catalog folds text (Err (Bad line kind))

-- the outcome that an answer tells
abbrev pub outcome_of : Result Script ScriptFault → Outcome
outcome_of (Ok script) = Ok (script_tree script)
outcome_of (Err fault) = Err fault

-- the outcome is this, unless the answer tells of want of memory or of the input
abbrev pub Answers : Result Script ScriptFault → (Outcome → Type 0) → Type 0
Answers (Err ReadFault) gives = ⊤
Answers (Err NoMemory) gives = ⊤
Answers answer gives = gives (outcome_of answer)

-- how the reading of the lines ends: in what was read of a script, or at the first refused line
abbrev pub LinesEnd : Result Reader ScriptFault → (Outcome → Type 0) → List Word → Type 0
LinesEnd (Ok reader) gives folds = gives (Ok (script_of folds (reading reader)))
LinesEnd (Err (Bad line kind)) gives folds = gives (Err (Bad line kind))
LinesEnd (Err NoMemory) gives folds = ⊤
LinesEnd (Err ReadFault) gives folds = ⊥
