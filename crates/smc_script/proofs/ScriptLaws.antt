-- What lines give, one after the other.
use Rattle.std.proofs.Common.{◌≡◌, ℕ, ◌+◌, List, [], ◌∷◌, ◌++◌, inl, inr, length, Bool, true, false, Option, None, Some, Ok, Err, refl, sym, ap, ◌∙◌, subst, arith}
use Rattle.std.proofs.lemmas.List.Elements.{All-head, All-tail}
use Rattle.std.specs.List.{All}
use Rattle.std.specs.Prelude.{if◌then◌else◌, IfErr, IfOk}
use Rattle.std.specs.declared.result.Result.{Result}
use Rattle.smc_lines.specs.Ahead.{Counts, Gives, IsPassedOver, PassesOver, Takes}
use Rattle.smc_lines.specs.Reading.{PassesLimit, Reads, UnlessMemory}
use Rattle.smc_lines.specs.Rest.{Rest}
use Rattle.smc_lines.specs.declared.fault.LinesFault.{LinesFault}
use Rattle.smc_lines.specs.declared.fault.LinesFault.TheVariants as limit
use Rattle.smc_outside.specs.Told.{OnTold}
use Rattle.smc_lines.specs.declared.cursor.Numbered.{Numbered}
use Rattle.smc_lines.specs.declared.fault.BadLine.{BadLine}
use Rattle.smc_query.specs.Trees.{Word}
use Rattle.smc_types.specs.declared.catalog.Catalog.{Catalog}
use Rattle.smc_script.specs.Faults.{LineGives, passed_over, no_text, no_command, command, line_answer, said_fault, taken}
use Rattle.smc_script.specs.Says.{LineSays, SaidTree}
use Rattle.smc_script.specs.Scripts.{Answers, LinesEnd, LinesGive, Outcome, TextGives, end_gives, limit_fault}
use Rattle.smc_script.specs.States.{ReadState, is_open, reading, script_of, start}
use Rattle.smc_script.specs.Trees.{ScriptTree, script_tree}
use Rattle.smc_script.specs.declared.fault.ScriptFault.{ScriptFault}
use Rattle.smc_script.specs.declared.fault.ScriptFault.TheVariants.{Bad, NoMemory, ReadFault}
use Rattle.smc_script.specs.declared.fault.ScriptKind.{ScriptKind}
use Rattle.smc_script.specs.declared.fault.ScriptKind.TheVariants.{Grammar, Group}
use Rattle.smc_script.specs.declared.script.Script.{Script}
use Rattle.smc_script.specs.declared.state.Reader.{Reader}

-- lines that are passed over change nothing of what the later ones give
pass-over : (catalog : Catalog) (folds : List Word) (state : ReadState) (outcome : Outcome) (passed later : List (List ℕ)) (number : ℕ) → All IsPassedOver passed
    → LinesGive catalog folds state (number + length passed) later outcome → LinesGive catalog folds state number (passed ++ later) outcome
pass-over catalog folds state outcome [] later number all gives =
    subst (λ (n : ℕ). LinesGive catalog folds state n later outcome) (omega arith) gives
pass-over catalog folds state outcome (line ∷ passed) later number all gives =
    let same : number + length (line ∷ passed) ≡ number + 1 + length passed = omega arith in (
      Ok state,
      passed_over (All-head IsPassedOver line passed all) refl,
      pass-over catalog folds state outcome passed later (number + 1) (All-tail IsPassedOver line passed all)
          (subst (λ (n : ℕ). LinesGive catalog folds state n later outcome) same gives),
    )

-- the lines ahead are those that are passed over and those behind them
over-rest : (catalog : Catalog) (folds : List Word) (state : ReadState) (outcome : Outcome) (before between : Rest) → PassesOver before between
    → LinesGive catalog folds state between.number between.lines outcome → LinesGive catalog folds state before.number before.lines outcome
over-rest catalog folds state outcome before between passes gives =
    subst (λ (lines : List (List ℕ)). LinesGive catalog folds state before.number lines outcome) (sym passes.parts)
    (pass-over catalog folds state outcome passes.passed between.lines before.number passes.quiet
    (subst (λ (n : ℕ). LinesGive catalog folds state n between.lines outcome) passes.count gives))

-- the next line gives this, and what follows from it is what the lines ahead give
next-line : (catalog : Catalog) (folds : List Word) (state : ReadState) (outcome : Outcome) (between behind : Rest) (line : List ℕ) → Takes between line behind
    → LinesGive catalog folds state between.number (line ∷ behind.lines) outcome → LinesGive catalog folds state between.number between.lines outcome
next-line catalog folds state outcome between behind line takes gives =
    subst (λ (lines : List (List ℕ)). LinesGive catalog folds state between.number lines outcome) (sym takes.parts) gives

-- what the end of lines gives, by whether a group is open
abbrev pub ended_by : List Word → ReadState → ℕ → Bool → Outcome
ended_by folds state number opened = if opened then Err (Bad (number + 1) Group) else Ok (script_of folds state)

-- the script that an end gives is what was read
script-by : (folds : List Word) (state : ReadState) (number : ℕ) (script : ScriptTree) (opened : Bool) → Ok script ≡ ended_by folds state number opened → Ok script ≡ ended_by folds state number false
script-by folds state number script true is = absurd cc
script-by folds state number script false is = is

pub script-ended : (folds : List Word) (state : ReadState) (number : ℕ) (script : ScriptTree) → Ok script ≡ end_gives folds state number → Ok script ≡ ended_by folds state number false
script-ended folds state number script is = script-by folds state number script (is_open state.group) is

-- where no line is left, the lines give what their end gives
pub none-left : (catalog : Catalog) (folds : List Word) (state : ReadState) (before behind : Rest) (outcome : Outcome) → Gives (Ok None) before behind
    → outcome ≡ end_gives folds state behind.number → LinesGive catalog folds state before.number before.lines outcome
none-left catalog folds state before behind outcome (passes, none) is =
    over-rest catalog folds state outcome before behind passes
    (subst (λ (lines : List (List ℕ)). LinesGive catalog folds state behind.number lines outcome) (sym none) is)

-- an end of the reading of lines, where one kind of outcome is another
pub ends-from : (answer : Result Reader ScriptFault) (folds : List Word) (one other : Outcome → Type 0) → ((outcome : Outcome) → one outcome → other outcome) → LinesEnd answer one folds
    → LinesEnd answer other folds
ends-from (Ok reader) folds one other goes ends = goes (Ok (script_of folds (reading reader))) ends
ends-from (Err (Bad line kind)) folds one other goes ends = goes (Err (Bad line kind)) ends
ends-from (Err NoMemory) folds one other goes ends = tt
ends-from (Err ReadFault) folds one other goes ends = ends

-- a line that is no text is refused
pub text-refused : (catalog : Catalog) (folds : List Word) (state : ReadState) (before behind : Rest) (bad : BadLine) → Gives (Err bad) before behind
    → LinesGive catalog folds state before.number before.lines (Err (Bad bad.line Grammar))
text-refused catalog folds state before behind bad (line, next, none, number) =
    let outcome : Outcome = Err (Bad bad.line Grammar) in
    let same : Err (Bad bad.line Grammar) ≡ Err (Bad (next.between.number + 1) Grammar) = ap (λ (n : ℕ). Err (Bad n Grammar)) (number ∙ next.takes.count) in
    over-rest catalog folds state outcome before next.between next.passes
    (next-line catalog folds state outcome next.between behind line next.takes (Err Grammar, no_text none refl, same))

-- a line that counts and is refused
pub line-refused : (catalog : Catalog) (folds : List Word) (state : ReadState) (before behind : Rest) (next : Numbered) (kind : ScriptKind)
    → Gives (Ok (Some next)) before behind → LineGives catalog folds state next.line next.text.now (Err kind)
    → LinesGive catalog folds state before.number before.lines (Err (Bad next.line kind))
line-refused catalog folds state before behind next kind (found, counts, number) gives =
    let outcome : Outcome = Err (Bad next.line kind) in
    let here : next.line ≡ found.between.number + 1 = number ∙ found.takes.count in
    over-rest catalog folds state outcome before found.between found.passes
    (next-line catalog folds state outcome found.between behind next.text.now found.takes
    (Err kind, subst (λ (n : ℕ). LineGives catalog folds state n next.text.now (Err kind)) here gives, ap (λ (n : ℕ). Err (Bad n kind)) here))

-- a line that counts and is taken: what the lines behind it give is what the lines from it on give
pub line-taken : (catalog : Catalog) (folds : List Word) (state later : ReadState) (before behind : Rest) (next : Numbered) (outcome : Outcome)
    → Gives (Ok (Some next)) before behind → LineGives catalog folds state next.line next.text.now (Ok later)
    → LinesGive catalog folds later behind.number behind.lines outcome → LinesGive catalog folds state before.number before.lines outcome
line-taken catalog folds state later before behind next outcome (found, counts, number) gives rest =
    let here : next.line ≡ found.between.number + 1 = number ∙ found.takes.count in
    over-rest catalog folds state outcome before found.between found.passes
    (next-line catalog folds state outcome found.between behind next.text.now found.takes (
      Ok later,
      subst (λ (n : ℕ). LineGives catalog folds state n next.text.now (Ok later)) here gives,
      subst (λ (n : ℕ). LinesGive catalog folds later n behind.lines outcome) found.takes.count rest,
    ))

-- what a line gives that counts and says nothing
pub nothing-given : (catalog : Catalog) (folds : List Word) (state next : ReadState) (number : ℕ) (line : List ℕ) → Counts line
    → ((said : SaidTree) → ¬ LineSays catalog state.names line said) → LineGives catalog folds state number line (line_answer (Some Grammar) next)
nothing-given catalog folds state next number line counts none = no_command counts none refl

-- what a line gives that says this
pub said-given : {F : Type 0} (catalog : Catalog) (folds : List Word) (state next : ReadState) (number : ℕ) (line : List ℕ) (said : SaidTree)
    (answer : Result (Option ScriptKind) F) → Counts line → LineSays catalog state.names line said
    → IfOk answer (λ kind. line_answer kind next ≡ taken catalog state number said (said_fault catalog folds state said))
    → IfOk answer (λ kind. LineGives catalog folds state number line (line_answer kind next))
said-given catalog folds state next number line said (Ok kind) counts says is = command said counts says is
said-given catalog folds state next number line said (Err fault) counts says is = tt

-- what is told of a text that passes a limit
past-limit : (catalog : Catalog) (folds : List Word) (before behind : Option (List ℕ)) (fault : LinesFault) → OnTold before behind (λ text later. PassesLimit fault text)
    → OnTold before behind (λ text later. TextGives catalog folds text (Err (limit_fault fault)))
past-limit catalog folds None behind fault told = tt
past-limit catalog folds (Some text) None fault told = told
past-limit catalog folds (Some text) (Some later) fault told = inl (fault, told, refl)

-- what an answer says where the input has no lines
pub limit-answers : (catalog : Catalog) (folds : List Word) (before behind : Option (List ℕ)) (fault : LinesFault)
    → UnlessMemory {T = List (List ℕ)} (Err fault) (λ answer. OnTold before behind (Reads answer))
    → Answers (Err (limit_fault fault)) (λ outcome. OnTold before behind (λ text later. TextGives catalog folds text outcome))
limit-answers catalog folds before behind limit.ReadFault told = tt
limit-answers catalog folds before behind limit.NoMemory told = tt
limit-answers catalog folds before behind (limit.TooLong line) told = past-limit catalog folds before behind (limit.TooLong line) told
limit-answers catalog folds before behind limit.TooMany told = past-limit catalog folds before behind limit.TooMany told

-- what the lines that were read give is what is told of the text
told-gives : (catalog : Catalog) (folds : List Word) (before behind : Option (List ℕ)) (read : List (List ℕ)) (outcome : Outcome)
    → OnTold before behind (Reads (Ok read)) → LinesGive catalog folds start 0 read outcome → OnTold before behind (λ text later. TextGives catalog folds text outcome)
told-gives catalog folds None behind read outcome told gives = tt
told-gives catalog folds (Some text) None read outcome told gives = told
told-gives catalog folds (Some text) (Some later) read outcome (is, within, done) gives =
    inr (within, subst (λ (all : List (List ℕ)). LinesGive catalog folds start 0 all outcome) is gives)

-- the same of an answer
pub lines-answer : (catalog : Catalog) (folds : List Word) (before behind : Option (List ℕ)) (read : List (List ℕ)) (answer : Result Script ScriptFault)
    → OnTold before behind (Reads (Ok read)) → Answers answer (LinesGive catalog folds start 0 read)
    → Answers answer (λ outcome. OnTold before behind (λ text later. TextGives catalog folds text outcome))
lines-answer catalog folds before behind read (Ok script) told gives = told-gives catalog folds before behind read (Ok (script_tree script)) told gives
lines-answer catalog folds before behind read (Err (Bad line kind)) told gives = told-gives catalog folds before behind read (Err (Bad line kind)) told gives
lines-answer catalog folds before behind read (Err ReadFault) told gives = tt
lines-answer catalog folds before behind read (Err NoMemory) told gives = tt

-- where the lines of a text were read nothing of it is left
pub none-is-left : (before behind : Option (List ℕ)) (read : List (List ℕ)) → OnTold before behind (Reads (Ok read)) → OnTold before behind (λ text left. left ≡ [])
none-is-left None behind read told = tt
none-is-left (Some text) None read told = told
none-is-left (Some text) (Some later) read (is, within, done) = done

-- how the reading of lines ends is what the answer says, where the script is made
pub ended-answers : (gives : Outcome → Type 0) (folds : List Word) (fault : ScriptFault) → LinesEnd (Err fault) gives folds → Answers (Err fault) gives
ended-answers gives folds (Bad line kind) ends = ends
ended-answers gives folds ReadFault ends = tt
ended-answers gives folds NoMemory ends = tt

-- a fault at which the reading of lines ends is none of the input
pub ended-inside : (gives : Outcome → Type 0) (folds : List Word) (fault : ScriptFault) → LinesEnd (Err fault) gives folds → ¬ (fault ≡ ReadFault)
ended-inside gives folds (Bad line kind) ends is = cc
ended-inside gives folds ReadFault ends is = ends
ended-inside gives folds NoMemory ends is = cc

-- the same beside an answer
pub left-answers : (before behind : Option (List ℕ)) (read : List (List ℕ)) (answer : Result Script ScriptFault) → OnTold before behind (Reads (Ok read))
    → IfOk answer (λ _. OnTold before behind (λ text left. left ≡ []))
left-answers before behind read (Ok script) told = none-is-left before behind read told
left-answers before behind read (Err fault) told = tt

-- the input failed only where the lines were not read
pub read-fault : (fault : LinesFault) → limit_fault fault ≡ ReadFault → fault ≡ limit.ReadFault
read-fault limit.ReadFault is = refl
read-fault limit.NoMemory is = absurd cc
read-fault (limit.TooLong line) is = absurd cc
read-fault limit.TooMany is = absurd cc

-- the fault of an answer, where it has one
abbrev fault_in : {T : Type 0} → Result T ScriptFault → ScriptFault → ScriptFault
fault_in (Ok script) other = other
fault_in (Err fault) other = fault

-- an answer with this fault has no other
pub answer-fault : {T : Type 0} (answer : Result T ScriptFault) (other : ScriptFault) → answer ≡ Err other → fault_in answer other ≡ other
answer-fault {T} answer other is = ap (λ (r : Result T ScriptFault). fault_in r other) is

-- an answer of lines that were read tells of no failed input
pub inside-only : (answer : Result Script ScriptFault) → IfErr answer (λ fault. ¬ (fault ≡ ReadFault)) → ¬ (answer ≡ Err ReadFault)
inside-only (Ok script) inside is = cc
inside-only (Err fault) inside is = inside (answer-fault {T = Script} (Err fault) ReadFault is)
