-- The bytes of places among the tokens of a text, for the functions in here.
use Rattle.std.specs.Prelude.{ℕ, if◌then◌else◌, List, [], ◌∷◌, drop, Result, Ok, Err}
use Rattle.smc_tokens.specs.Tokens.{PlacedToken}
use Rattle.smc_tokens.specs.TokenList.{TokenList}
use Rattle.smc_parse.specs.declared.fault.Fault.{Fault}
use Rattle.smc_parse.specs.declared.fault.Fault.TheVariants as faults
use Rattle.smc_lang.specs.declared.fault.ParseFault.{ParseFault}
use Rattle.smc_lang.specs.declared.fault.ParseFault.TheVariants.{TooDeep, At, NoMemory}

-- where the first of these tokens begins; of none, where the tokens stop
abbrev pub first_byte : List PlacedToken → ℕ → ℕ
first_byte [] end = end
first_byte (token ∷ more) end = token.at

-- the byte of a place among the tokens
abbrev pub byte_at : TokenList → ℕ → ℕ
byte_at list index = first_byte (drop index list.tokens) list.end

-- a fault among the tokens, at its byte
abbrev pub placed_fault : TokenList → Fault → ParseFault
placed_fault list (faults.Wrong index) = At (byte_at list index)
placed_fault list (faults.TooDeep index) = TooDeep (byte_at list index)
placed_fault list faults.NoMemory = NoMemory

-- what was read of the tokens stands only where they are the whole text
abbrev pub settled : {T : Type 0} → TokenList → Result T Fault → Result T ParseFault
settled list (Err fault) = Err (placed_fault list fault)
settled list (Ok found) = if list.whole then Ok found else Err (At list.end)
