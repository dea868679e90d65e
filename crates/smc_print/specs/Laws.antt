-- What printing is worth: a printed query is read as this query.
use Rattle.std.specs.Prelude.{◌≡◌, ℕ, ◌+◌, ◌≤◌, List, [], ◌∷◌, length, map, Some, ⊤}
use Rattle.smc_tokens.specs.Tokens.{token_of, PlacedToken, FallsInto}
use Rattle.smc_tokens.specs.declared.token.Token.{Token}
use Rattle.smc_query.specs.Trees.{QueryTree, a_query, query_text}
use Rattle.smc_query.specs.Grammar.{Spells}
use Rattle.smc_print.specs.TokenText.{token_text, tokens_text}
use Rattle.smc_print.specs.Printed.{query_tokens}
use Rattle.smc_print.specs.Depth.{query_depth}

-- The tokens with which a query is printed spell it, for each query that some tokens spell, however deep these nest;
-- they nest as deep as the query's depth says.
abbrev pub TokensSpellTheQuery : Type 0
TokensSpellTheQuery = (query : QueryTree) (other depth : ℕ) (tokens : List Token)
    → Spells query_text other tokens (a_query query) → query_depth query ≤ depth → Spells query_text depth (query_tokens query) (a_query query)

-- the token is read where it is written
abbrev pub IsRead : Token → Type 0
IsRead token = token_of (token_text token) ≡ Some token

-- each of the tokens is
abbrev pub AreRead : List Token → Type 0
AreRead [] = ⊤
AreRead (token ∷ tokens) = IsRead token × AreRead tokens

-- a token of any text is read where it is written
abbrev pub TokensOfTextsAreRead : Type 0
TokensOfTextsAreRead = (bytes : List ℕ) (token : Token) → token_of bytes ≡ Some token → IsRead token

-- the tokens and where they begin, the first at this byte, with one space between
abbrev pub placed : ℕ → List Token → List PlacedToken
placed at [] = []
placed at (token ∷ tokens) = record { token = token; at = at } ∷ placed (at + length (token_text token) + 1) tokens

-- the text of tokens falls into these tokens, and into nothing else
abbrev pub TextFallsIntoItsTokens : Type 0
TextFallsIntoItsTokens = (tokens : List Token) → AreRead tokens → FallsInto 0 (tokens_text tokens) (placed 0 tokens) (length (tokens_text tokens)) []

-- the text falls into tokens that spell the query, of which at most so many are open at one place
abbrev pub IsTextOf : ℕ → List ℕ → QueryTree → Type 0
IsTextOf depth text query = (list : List PlacedToken)
    × (FallsInto 0 text list (length text) [] × Spells query_text depth (map (λ (part : PlacedToken). part.token) list) (a_query query))

-- Where some text is a query's, its printed text is too, and nests as deep as the query's depth says.
abbrev pub PrintedIsRead : Type 0
PrintedIsRead = (query : QueryTree) (other depth : ℕ) (text : List ℕ)
    → IsTextOf other text query → query_depth query ≤ depth → IsTextOf depth (tokens_text (query_tokens query)) query
