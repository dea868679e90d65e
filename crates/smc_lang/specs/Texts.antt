-- What a text of a form is read as, or the byte at which it stops being the front of one.
use Rattle.std.specs.Prelude.{ℕ, ◌<◌, List, [], ◌∷◌, ◌++◌, length}
use Rattle.smc_tokens.specs.Tokens.{PlacedToken, FallsInto}
use Rattle.smc_query.specs.Trees.{Answer, Form}
use Rattle.smc_query.specs.Grammar.{Spells}
use Rattle.smc_query.specs.Faults.{Begins, IsWrongToken, IsWrongEnd, IsTooDeep}
use Rattle.smc_parse.specs.Reading.{tokens_of}
use Rattle.smc_parse.specs.declared.limits.TheConstants.{MAX_OPEN}
use Rattle.smc_lang.specs.declared.limits.TheConstants.{MAX_TEXT}
use Rattle.smc_lang.specs.declared.fault.ParseFault.{ParseFault}
use Rattle.smc_lang.specs.declared.fault.ParseFault.TheVariants.{TooLong, TooDeep, At, NoMemory}

-- the whole text falls into tokens, and they spell the answer
pub data ReadsText : Form → List ℕ → Answer → Type 0 where
  as_tokens : {form : Form} {text : List ℕ} {answer : Answer} {tokens : List PlacedToken}
      → FallsInto 0 text tokens (length text) [] → Spells form MAX_OPEN (tokens_of tokens) answer → ReadsText form text answer

-- The text is wrong at this byte: a token begins here with which no text goes on; or the text ends here, and what stands
-- before can still become a text but is none; or behind tokens that can still become a text, bytes begin that are no token.
pub data IsWrongAt : Form → List ℕ → ℕ → Type 0 where
  wrong_token : {form : Form} {text rest : List ℕ} {token : PlacedToken} {end : ℕ} (before behind : List PlacedToken)
      → FallsInto 0 text (before ++ token ∷ behind) end rest → IsWrongToken form MAX_OPEN (tokens_of before) token.token → IsWrongAt form text token.at
  wrong_end : {form : Form} {text : List ℕ} {tokens : List PlacedToken}
      → FallsInto 0 text tokens (length text) [] → IsWrongEnd form MAX_OPEN (tokens_of tokens) → IsWrongAt form text (length text)
  no_token : {form : Form} {text rest : List ℕ} {tokens : List PlacedToken} {byte at : ℕ}
      → FallsInto 0 text tokens at (byte ∷ rest) → Begins form MAX_OPEN (tokens_of tokens) → IsWrongAt form text at

-- a token begins at this byte which opens too much
pub data IsTooDeepAt : Form → List ℕ → ℕ → Type 0 where
  deep_token : {form : Form} {text rest : List ℕ} {token : PlacedToken} {end : ℕ} (before behind : List PlacedToken)
      → FallsInto 0 text (before ++ token ∷ behind) end rest → IsTooDeep form MAX_OPEN (tokens_of before) token.token → IsTooDeepAt form text token.at

-- why a text is refused; want of memory says nothing of the text
abbrev pub IsFaultOf : Form → List ℕ → ParseFault → Type 0
IsFaultOf form text TooLong = MAX_TEXT < length text
IsFaultOf form text (TooDeep at) = IsTooDeepAt form text at
IsFaultOf form text (At at) = IsWrongAt form text at
IsFaultOf form text NoMemory = Unit {0}
