-- What is said of every text.
use Rattle.std.specs.Prelude.{◌≡◌, ℕ, ◌≤◌, List}
use Rattle.smc_query.specs.Trees.{Answer, Form, QueryTree, a_query, query_text}
use Rattle.smc_parse.specs.declared.limits.TheConstants.{MAX_OPEN}
use Rattle.smc_print.specs.Depth.{query_depth}
use Rattle.smc_print.specs.Printed.{query_tokens}
use Rattle.smc_print.specs.TokenText.{tokens_text}
use Rattle.smc_lang.specs.Texts.{ReadsText, IsWrongAt, IsTooDeepAt}

-- what a text may be: read as an answer, or wrong or too deep at a byte
pub data Thing : Type 0 where
  read : Answer → Thing
  wrong : ℕ → Thing
  deep : ℕ → Thing

-- the text, in this form, is this
abbrev pub IsThing : Form → List ℕ → Thing → Type 0
IsThing form text (read answer) = ReadsText form text answer
IsThing form text (wrong at) = IsWrongAt form text at
IsThing form text (deep at) = IsTooDeepAt form text at

-- a text is one thing at most
abbrev pub IsOneThing : Type 0
IsOneThing = (form : Form) (text : List ℕ) (one other : Thing) → IsThing form text one → IsThing form text other → one ≡ other

-- a text is one thing at least
abbrev pub IsSomething : Type 0
IsSomething = (form : Form) (text : List ℕ) → (thing : Thing) × IsThing form text thing

-- A query that some text is read as is read from its printed text, where that opens no more than may be open.
abbrev pub PrintedIsRead : Type 0
PrintedIsRead = (query : QueryTree) (text : List ℕ) → ReadsText query_text text (a_query query) → query_depth query ≤ MAX_OPEN
    → ReadsText query_text (tokens_text (query_tokens query)) (a_query query)
