-- What is printed of a query of a text is read as this query.
use Rattle.std.proofs.Common.{◌≡◌, ℕ, ◌+◌, List, [], ◌∷◌, length, map, take, refl, ap}
use Rattle.smc_tokens.specs.Tokens.{PlacedToken, FallsInto, ended, spaced, taken, refused}
use Rattle.smc_tokens.specs.declared.token.Token.{Token}
use Rattle.smc_print.specs.TokenText.{token_text}
use Rattle.smc_print.specs.Printed.{query_tokens}
use Rattle.smc_print.specs.Laws.{AreRead, placed, PrintedIsRead}
use Rattle.smc_print.proofs.QueryPrints.{tokens_spell}
use Rattle.smc_print.proofs.ReadAgain.{read_again}
use Rattle.smc_print.proofs.TextFalls.{text_falls}
use Rattle.smc_print.proofs.TokensRead.{query_read}

abbrev token_in : PlacedToken → Token
token_in part = part.token

-- the tokens of a text are read where they are written
falls_read : {at end : ℕ} {text rest : List ℕ} {list : List PlacedToken} → FallsInto at text list end rest → AreRead (map token_in list)
falls_read ended = tt
falls_read (spaced inner) = falls_read inner
falls_read (taken {count = count} {text = text} {token = token} takes inner) = (read_again (take count text) token takes.spelled, falls_read inner)
falls_read (refused differs none) = tt

placed_tokens : (at : ℕ) (tokens : List Token) → map token_in (placed at tokens) ≡ tokens
placed_tokens at [] = refl
placed_tokens at (token ∷ tokens) = ap (λ ts. token ∷ ts) (placed_tokens (at + length (token_text token) + 1) tokens)

pub printed_read : PrintedIsRead
printed_read query other depth text (list, (falls, spells)) deep =
    let read : AreRead (map token_in list) = falls_read falls in
    let tokens : AreRead (query_tokens query) = query_read spells read in
    (placed 0 (query_tokens query), (text_falls (query_tokens query) tokens, rw (placed_tokens 0 (query_tokens query)) (tokens_spell query other depth (map token_in list) spells deep)))
