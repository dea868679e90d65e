-- The first token at which a list of tokens can't be a text of a form, or at which it nests too deeply.
use Rattle.std.specs.Prelude.{ℕ, List, [], ◌∷◌, ◌++◌}
use Rattle.smc_tokens.specs.declared.token.Token.{Token}
use Rattle.smc_query.specs.Trees.{Answer, Form}
use Rattle.smc_query.specs.Grammar.{Spells}

-- some text of the form, in which at most so many are open at one place, begins with these tokens
abbrev pub Begins : Form → ℕ → List Token → Type 0
Begins form depth front = (more : List Token) × ((answer : Answer) × Spells form depth (front ++ more) answer)

-- the token behind these is the first wrong one: they begin a text, and with it they begin none, however deep
pub record IsWrongToken (form : Form) (depth : ℕ) (front : List Token) (token : Token) : Type 0 where
  pub begins : Begins form depth front
  pub none : (other : ℕ) → ¬ Begins form other (front ++ token ∷ [])

-- the end behind these tokens is what is wrong: they begin a text and are none, however deep
pub record IsWrongEnd (form : Form) (depth : ℕ) (front : List Token) : Type 0 where
  pub begins : Begins form depth front
  pub none : (other : ℕ) (answer : Answer) → ¬ Spells form other front answer

-- what stands behind these tokens is wrong: the next token, or the end
abbrev pub IsWrongBehind : Form → ℕ → List Token → List Token → Type 0
IsWrongBehind form depth front [] = IsWrongEnd form depth front
IsWrongBehind form depth front (token ∷ rest) = IsWrongToken form depth front token

-- the token behind these opens too much: with it they begin a text, but none within the depth
pub record IsTooDeep (form : Form) (depth : ℕ) (front : List Token) (token : Token) : Type 0 where
  pub begins : Begins form depth front
  pub goes_on : (other : ℕ) × Begins form other (front ++ token ∷ [])
  pub none : ¬ Begins form depth (front ++ token ∷ [])

-- the token behind these opens too much
abbrev pub IsTooDeepBehind : Form → ℕ → List Token → List Token → Type 0
IsTooDeepBehind form depth front [] = ⊥
IsTooDeepBehind form depth front (token ∷ rest) = IsTooDeep form depth front token
