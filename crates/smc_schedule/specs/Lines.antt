-- What a line of a schedule says, as a function of its text; `Grammar.antt` has the same in the words of the format.
use Rattle.std.specs.Prelude.{ℕ, ◌-◌, if◌then◌else◌, nat_eq, List, [], ◌∷◌, length, take, codes, None, Some, option_and_then}
use Rattle.std.specs.declared.option.Option.{Option}
use Rattle.std.specs.List.{ends_with}
use Rattle.std.specs.Option.{option_map}
use Rattle.std.specs.Str.{bytes_eq}
use Rattle.smc_lines.specs.Words.{words}
use Rattle.smc_schedule.specs.Calls.{call_from, index_of}
use Rattle.smc_schedule.specs.declared.line.Act.{Act}
use Rattle.smc_schedule.specs.declared.line.Act.TheVariants.{Start, Run, Step, RunOn}
use Rattle.smc_schedule.specs.declared.line.ScheduleLine.{ScheduleLine}

-- words before a last `!`: the call in progress goes on to its end, or a call is started and goes to its end
abbrev pub run_of : ℕ → List (List ℕ) → Option Act
run_of width [] = Some RunOn
run_of width (word ∷ words) = option_map Run (call_from width word words)

-- a step of the call in progress, where nothing stands behind the word for it
abbrev pub step_alone : List (List ℕ) → Option Act
step_alone [] = Some Step
step_alone (word ∷ words) = None

-- words without a last `!`: a step of the call in progress, or the first step of a call
abbrev pub step_of : ℕ → List (List ℕ) → Option Act
step_of width [] = None
step_of width (word ∷ words) = if bytes_eq word (codes ".") then step_alone words else option_map Start (call_from width word words)

-- a pass, and what it is to do
abbrev pub pass_and : (List (List ℕ) → Option Act) → List (List ℕ) → Option ScheduleLine
pass_and act_of [] = None
pass_and act_of (pass ∷ words) = option_and_then (λ p. option_map (λ a. record { pass = p; act = a }) (act_of words)) (index_of pass)

-- what a line says, where a record has so many fields
abbrev pub line_of : ℕ → List ℕ → Option ScheduleLine
line_of width text =
    if ends_with nat_eq text (codes " !") then pass_and (run_of width) (words (take (length text - 2) text))
    else pass_and (step_of width) (words text)
