-- What a whole text plays.
use Rattle.std.proofs.Common.{◌≡◌, ℕ, List, [], Option, None, Some, refl, sym, subst}
use Rattle.std.specs.declared.result.Result.{Result}
use Rattle.std.specs.Prelude.{IfSome, IfOk, Ok, Err, string_bytes}
use Rattle.smc_words.specs.declared.NoMemory.{NoMemory}
use Rattle.smc_lines.specs.Ahead.{Gives}
use Rattle.smc_lines.specs.Reading.{Reads}
use Rattle.smc_lines.specs.Rest.{Rest}
use Rattle.smc_lines.specs.declared.cursor.Numbered.{Numbered}
use Rattle.smc_lines.specs.declared.fault.BadLine.{BadLine}
use Rattle.smc_outside.specs.Told.{OnTold}
use Rattle.smc_play.specs.Ending.{Prints}
use Rattle.smc_play.specs.Texts.{OpensBy, PlaysLines, PlaysText, SaysNoShape}
use Rattle.smc_play.specs.Turns.{Playing}
use Rattle.smc_play.specs.declared.ending.Ending.{Ending}
use Rattle.smc_play.specs.declared.ending.Ending.TheVariants.{RefusedAt}
use Rattle.smc_play.specs.declared.open.Opened.{Opened}
use Rattle.smc_play.specs.declared.text.Played.{Played}

-- what is given ahead of the first line
pub first-gives : {found known : Result (Option Numbered) BadLine} {here start : Rest} (after : Rest) → found ≡ known → here ≡ start → Gives found here after → Gives known start after
first-gives {found} {known} {here} {start} after is begins gives =
    subst (λ (r : Rest). Gives known r after) begins (subst (λ (r : Result (Option Numbered) BadLine). Gives r here after) is gives)

-- a text that is refused at its first line prints nothing
pub prints-nothing : {lines : List (List ℕ)} {printed : List ℕ} {ending : Ending} {line : ℕ} → printed ≡ [] → ending ≡ RefusedAt line
    → PlaysText lines [] (RefusedAt line) → PlaysText lines printed ending
prints-nothing {lines} {printed} {ending} {line} nothing ends plays =
    subst (λ (t : List ℕ). PlaysText lines t ending) (sym nothing) (subst (λ (e : Ending). PlaysText lines [] e) (sym ends) plays)

-- where no region was opened the text says no shape
pub no-shape : (text : List ℕ) (found : Option Opened) → OpensBy text found → ((opened : Opened) → ¬ (found ≡ Some opened)) → SaysNoShape text
no-shape text None says none = says
no-shape text (Some opened) says none = absurd (none opened refl)

-- what the lines behind the first one print is what the whole text prints
pub all-prints : (lines : List (List ℕ)) (width : ℕ) (p : Playing) (after : Rest) (answer : Result Played NoMemory)
    → IfOk answer (λ played. PlaysLines width p after (string_bytes played.text) played.ending)
    → ((text : List ℕ) (ending : Ending) → PlaysLines width p after text ending → PlaysText lines text ending)
    → IfOk answer (λ played. PlaysText lines (string_bytes played.text) played.ending)
all-prints lines width p after (Ok played) plays shaped = shaped (string_bytes played.text) played.ending plays
all-prints lines width p after (Err fault) plays shaped = tt

-- what the lines that were read print is what the text prints
pub read-prints : (before after : Option (List ℕ)) {read : List (List ℕ)} {printed : List ℕ} {ending : Ending} → OnTold before after (Reads (Ok read))
    → PlaysText read printed ending → IfSome before (Prints printed ending)
read-prints None after told plays = tt
read-prints (Some text) None told plays = absurd told
read-prints (Some text) (Some later) {printed = printed} {ending = ending} told plays =
    let (is, within, done) = told in
    (within, subst (λ (lines : List (List ℕ)). PlaysText lines printed ending) is plays)
