-- What the grammar says of all lists of tokens.
use Rattle.std.specs.Prelude.{◌≡◌, ◌⊎◌, ℕ, suc, List, ◌++◌}
use Rattle.smc_tokens.specs.declared.token.Token.{Token}
use Rattle.smc_query.specs.Trees.{Answer, Form}
use Rattle.smc_query.specs.Grammar.{Spells}
use Rattle.smc_query.specs.Faults.{Begins, IsWrongBehind, IsTooDeepBehind}

-- a list of tokens spells one thing at most, however deep
abbrev pub SpellsOne : Type 0
SpellsOne = (form : Form) (depth other : ℕ) (tokens : List Token) (one two : Answer)
    → Spells form depth tokens one → Spells form other tokens two → one ≡ two

-- the tokens spell something within the depth
abbrev pub IsSpelled : Form → ℕ → List Token → Type 0
IsSpelled form depth tokens = (answer : Answer) × Spells form depth tokens answer

-- behind these tokens stands the first one that is wrong or opens too much, or the end is wrong
pub record IsFault (form : Form) (depth : ℕ) (tokens front rest : List Token) : Type 0 where
  pub split : tokens ≡ front ++ rest
  pub stops : IsWrongBehind form depth front rest ⊎ IsTooDeepBehind form depth front rest

-- a list of tokens spells something within a depth above 0, or it has a place at which it stops
abbrev pub SpellsOrStops : Type 0
SpellsOrStops = (form : Form) (less : ℕ) (tokens : List Token)
    → IsSpelled form (suc less) tokens ⊎ ((front : List Token) × ((rest : List Token) × IsFault form (suc less) tokens front rest))

-- a list of tokens that spells something has no place at which it stops
abbrev pub SpelledNeverStops : Type 0
SpelledNeverStops = (form : Form) (depth : ℕ) (tokens front rest : List Token) → IsSpelled form depth tokens → ¬ IsFault form depth tokens front rest

-- all tokens before the place where a list stops can still become a text, and so can each front of them
abbrev pub FrontsBegin : Type 0
FrontsBegin = (form : Form) (depth : ℕ) (front more : List Token) → Begins form depth (front ++ more) → Begins form depth front
