-- The lines of a text that are still ahead, and what the next one is.
use Rattle.std.specs.Prelude.{◌≡◌, ◌≢◌, ℕ, ◌+◌, ◌==◌, Bool, true, not, IsTrue, List, [], ◌∷◌, ◌++◌, length, All, None, Some, Result, Ok, Err}
use Rattle.std.specs.declared.option.Option.{Option}
use Rattle.std.specs.Str.{IsUtf8}
use Rattle.smc_lines.specs.declared.cursor.Numbered.{Numbered}
use Rattle.smc_lines.specs.declared.fault.BadLine.{BadLine}
use Rattle.smc_lines.specs.declared.limits.TheConstants.{COMMENT}
use Rattle.smc_lines.specs.Rest.{Rest}

-- a line of text: UTF-8 without a byte 0
pub record IsText (line : List ℕ) : Type 0 where
  pub utf8 : IsUtf8 line
  pub no_zero : All (λ byte. byte ≢ 0) line

-- no bytes, or a comment
abbrev pub is_quiet : List ℕ → Bool
is_quiet [] = true
is_quiet (byte ∷ line) = byte == COMMENT

-- a line of text that is passed over
abbrev pub IsPassedOver : List ℕ → Type 0
IsPassedOver line = IsText line × IsTrue (is_quiet line)

-- a line of text that counts
abbrev pub Counts : List ℕ → Type 0
Counts line = IsText line × IsTrue (not (is_quiet line))

-- some lines are passed over
pub record PassesOver (before after : Rest) : Type 0 where
  pub passed : List (List ℕ)
  pub parts : before.lines ≡ passed ++ after.lines
  pub quiet : All IsPassedOver passed
  pub count : after.number ≡ before.number + length passed

-- the next line is taken
pub record Takes (before : Rest) (line : List ℕ) (after : Rest) : Type 0 where
  pub parts : before.lines ≡ line ∷ after.lines
  pub count : after.number ≡ before.number + 1

-- some lines are passed over, and the one behind them, of which this holds, is taken
pub record TakesNext (before : Rest) (line : List ℕ) (after : Rest) : Type 0 where
  pub between : Rest
  pub passes : PassesOver before between
  pub takes : Takes between line after

-- what an answer says of the lines ahead before and after it: no line counts; this one counts; this one is no text
abbrev pub Gives : Result (Option Numbered) BadLine → Rest → Rest → Type 0
Gives (Ok None) before after = PassesOver before after × (after.lines ≡ [])
Gives (Ok (Some next)) before after = TakesNext before next.text.now after × Counts next.text.now × (next.line ≡ after.number)
Gives (Err bad) before after = (line : List ℕ) × TakesNext before line after × (¬ IsText line) × (bad.line ≡ after.number)
